-- What reading the dataset at an address returns and leaves.
use Rattle.std.specs.Prelude.{ℕ, List, Result, Ok, Err}
use Rattle.format.specs.declared.Refusal.{Refusal}
use Rattle.format.specs.Blocks.{Block}
use Rattle.format.specs.Walk.{Walk, run, ◌>>◌}
use Rattle.format.specs.Superblock.{Superblock, superblock_walk}
use Rattle.format.specs.Describe.{describe_walk}
use Rattle.walk.specs.Lent.{Lent, Ended, ended, stopped, Walked}
use Rattle.message.specs.declared.Body.{Body}
use Rattle.dataset.specs.Dataset.{Inside, body_of, dataset_of, Shaped}
use Rattle.dataset.specs.declared.dataset.Dataset.{Dataset}
use Rattle.dataset_at.specs.declared.DatasetAt.{DatasetAt}

-- the dataset at an address, walked on a list of its own
abbrev pub dataset_at_walk : Superblock → ℕ → Walk Rattle.format.specs.Dataset.Dataset
dataset_at_walk s at = superblock_walk s >> describe_walk at

-- the dataset, with the number of blocks then entered, or the refusal
abbrev pub reader_end : List ℕ → Result DatasetAt Refusal → Ended Rattle.format.specs.Dataset.Dataset
reader_end im (Ok d) = ended (dataset_of (body_of im d.space) d.dataset) d.count
reader_end im (Err r) = stopped r

-- the dataspace message's body lies in the image, and the sizes and maxima of at most 32 dimensions in the body
pub record Readable (im : List ℕ) (space : Body) (d : Dataset) : Type 0 where
  pub inside : Inside im space
  pub shaped : Shaped (body_of im space) d

abbrev pub ReadableIf : List ℕ → Result DatasetAt Refusal → Type 0
ReadableIf im (Ok d) = Readable im d.space d.dataset
ReadableIf im (Err r) = Unit {0}

abbrev pub LentIf : List ℕ → ℕ → Result DatasetAt Refusal → Type 0
LentIf ws room (Ok d) = Lent ws d.count room
LentIf ws room (Err r) = Unit {0}

-- a walk w to a dataset, begun with the blocks bs in the list ws, was walked
pub record ReaderIs (im : List ℕ) (eof room : ℕ) (w : Walk Rattle.format.specs.Dataset.Dataset) (bs : List Block) (ws ws' : List ℕ)
    (r : Result DatasetAt Refusal) : Type 0 where
  pub walked : Walked ws ws' (reader_end im r) (run im eof room w bs)
  pub lent : LentIf ws' room r
  pub readable : ReadableIf im r
