-- The faults of a dataset are met where its messages begin.
use mathlib.Core.List.{List}
use mathlib.Core.Path.{refl}
use Rattle.format.specs.Blocks.{Block}
use Rattle.format.specs.Walk.{data_block}
use Rattle.format.specs.Message.{Message}
use Rattle.format.specs.Dataspace.{Dataspace, read_dataspace}
use Rattle.format.specs.Datatype.{Datatype}
use Rattle.format.specs.Layout.{Layout, read_layout}
use Rattle.format.specs.Dataset.{fills, has_data_block, data_walk, head_at, read_type, storage_walk}
use Rattle.format.specs.Sharing.{Found, share_each, shared_by}
use Rattle.format.specs.Object.{sharing_dataset}
use Rattle.links.specs.Placed.{HeldBy}
use Rattle.links.proofs.NumberedSharing.{shares-answered}
use Rattle.links.proofs.NumberedDataset.{space-answered, type-answered, layout-answered}
use Rattle.links.proofs.Placed.{Not13, not-13, Placed, Whatever, placed-bind, placed-ret, placed-block, placed-check, placed-if, placed-located}

data-placed : (bs : List Block) (l : Layout) → Placed Whatever bs (data_walk l)
unfolding data_walk
data-placed bs l =
    placed-if _ bs (has_data_block l) _ _ (λ _. placed-block _ bs data_block l.address l.size _ λ b cs _ _. placed-ret _ cs tt tt)
    (λ _. placed-ret _ bs tt tt)

storage-placed : (bs : List Block) (d : Dataspace) (t : Datatype) (layout : Message) → HeldBy bs (head_at layout) →
    Placed Whatever bs (storage_walk d t layout)
unfolding storage_walk
storage-placed bs d t layout h =
    placed-located _ bs (head_at layout) (read_layout layout.place layout.body) _
    (layout-answered Not13 (not-13 3 refl) (not-13 11 refl) layout.place layout.body) h λ l _.
    placed-check _ bs (fills d t l) 11 (head_at layout) _ refl h λ _.
    placed-bind Whatever _ bs _ _ (data-placed bs l) λ cs _ _ _.
    placed-ret _ cs _ tt

pub dataset-placed : (bs : List Block) (space type layout : Message) (f : Found) → HeldBy bs (head_at space) → HeldBy bs (head_at type) →
    HeldBy bs (head_at layout) → Placed Whatever bs (sharing_dataset space type layout f)
unfolding sharing_dataset
dataset-placed bs space type layout f h k l =
    placed-located _ bs (head_at space) (read_dataspace space.body) _ (space-answered Not13 (not-13 3 refl) (not-13 11 refl) space.body) h λ d _.
    placed-located _ bs (head_at type) (read_type type) _ (type-answered Not13 (not-13 3 refl) (not-13 11 refl) type) k λ t _.
    placed-located _ bs (head_at type) (share_each (shared_by t) f) _
    (shares-answered Not13 (not-13 3 refl) (not-13 10 refl) (not-13 12 refl) (shared_by t) f) k λ g _.
    placed-bind Whatever _ bs _ _ (storage-placed bs d t layout l) λ cs _ _ _.
    placed-ret _ cs g tt
