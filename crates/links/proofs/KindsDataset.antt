-- The kind of the one block that a dataset's walk enters: its data.
use Prim.Native.Nat.{ℕ}
use Rattle.format.specs.Message.{Message}
use Rattle.format.specs.Dataspace.{Dataspace}
use Rattle.format.specs.Datatype.{Datatype}
use Rattle.format.specs.Layout.{Layout}
use Rattle.format.specs.Dataset.{data_walk, storage_walk, dataset_walk}
use Rattle.format.specs.Sharing.{Found}
use Rattle.format.specs.Object.{sharing_dataset}
use Rattle.links.proofs.KindsEntered.{Enters, entering}

module _ (K : ℕ → Type 0) (contents : K 8) where
  data-enters : (l : Layout) → Enters K (data_walk l)
  unfolding data_walk
  data-enters l = search entering

  storage-enters : (d : Dataspace) (t : Datatype) (layout : Message) → Enters K (storage_walk d t layout)
  unfolding storage_walk
  storage-enters d t layout = search (entering, data-enters) depth 12

  pub dataset-enters : (space type layout : Message) → Enters K (dataset_walk space type layout)
  unfolding dataset_walk
  dataset-enters space type layout = search (entering, storage-enters) depth 12

  -- the same with its sharing
  pub sharing-enters : (space type layout : Message) (f : Found) → Enters K (sharing_dataset space type layout f)
  unfolding sharing_dataset
  sharing-enters space type layout f = search (entering, storage-enters) depth 12
