-- The block list that a header is read with.
use Rattle.std.specs.Prelude.{ℕ, ◌≤◌, List, length}
use Rattle.format.specs.Limits.{blocks_most}
use Rattle.format.specs.Blocks.{Block}
use Rattle.walk.specs.Lent.{blocks_of, Lent}
use Rattle.walk.specs.declared.blocks.Blocks.{Blocks}
use Rattle.continuations.specs.declared.Reading.{Reading}

-- a list of blocks that may be entered, as the file and its limits have them
pub record Lending (im ws : List ℕ) (r : Reading) (count : ℕ) : Type 0 where
  pub lent : Lent ws count r.bounds.room
  pub most : r.bounds.room ≤ blocks_most
  pub file : r.bounds.end_of_file ≤ length im

-- the blocks that were entered
abbrev pub entered_in : Blocks → List Block
entered_in b = blocks_of b.count b.words.now
