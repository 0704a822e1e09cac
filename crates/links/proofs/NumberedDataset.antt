-- The numbers with which reading a dataset is refused: 3 and 11, and 10 and 12 with its sharing.
use Prim.Native.Nat.{ℕ}
use mathlib.Core.List.{List}
use Rattle.format.specs.Message.{Message}
use Rattle.format.specs.Dataspace.{Dataspace, read_dataspace}
use Rattle.format.specs.Datatype.{Datatype, read_datatype, read_shared}
use Rattle.format.specs.Layout.{Layout, read_compact, read_contiguous, read_layout}
use Rattle.format.specs.Dataset.{read_type, data_walk, storage_walk, dataset_walk}
use Rattle.format.specs.Sharing.{Found, share_each}
use Rattle.format.specs.Object.{sharing_dataset}
use Rattle.links.proofs.Numbered.{Answered, Numbered, answers, numbers}
use Rattle.links.proofs.NumberedSharing.{shares-answered}

module _ (N : ℕ → Type 0) (three : N 3) (eleven : N 11) where
  pub space-answered : (b : List ℕ) → Answered N (read_dataspace b)
  unfolding read_dataspace
  space-answered b = search answers depth 20

  own-answered : (b : List ℕ) → Answered N (read_datatype b)
  unfolding read_datatype
  own-answered b = search answers depth 20

  shared-answered : (b : List ℕ) → Answered N (read_shared b)
  unfolding read_shared
  shared-answered b = search answers depth 8

  pub type-answered : (m : Message) → Answered N (read_type m)
  unfolding read_type
  type-answered m = search (answers, own-answered, shared-answered)

  pub layout-answered : (place : ℕ) (b : List ℕ) → Answered N (read_layout place b)
  unfolding read_layout read_compact read_contiguous
  layout-answered place b = search answers depth 12

  data-numbered : (l : Layout) → Numbered N (data_walk l)
  unfolding data_walk
  data-numbered l = search numbers

  storage-numbered : (d : Dataspace) (t : Datatype) (layout : Message) → Numbered N (storage_walk d t layout)
  unfolding storage_walk
  storage-numbered d t layout = search (numbers, layout-answered, data-numbered) depth 12

  pub dataset-numbered : (space type layout : Message) → Numbered N (dataset_walk space type layout)
  unfolding dataset_walk
  dataset-numbered space type layout = search (numbers, space-answered, type-answered, storage-numbered) depth 12

  -- the same with its sharing
  module _ (ten : N 10) (twelve : N 12) where
    shares : (addresses : List ℕ) (f : Found) → Answered N (share_each addresses f)
    shares = shares-answered N three ten twelve

    pub sharing-numbered : (space type layout : Message) (f : Found) → Numbered N (sharing_dataset space type layout f)
    unfolding sharing_dataset
    sharing-numbered space type layout f = search (numbers, space-answered, type-answered, shares, storage-numbered) depth 12
