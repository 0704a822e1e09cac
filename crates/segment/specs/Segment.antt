-- What is known of a segment that was looked over.
use Rattle.std.specs.Prelude.{ℕ, List, ◌≡◌, Option, Some, None}
use Rattle.format.specs.Blocks.{Block}
use Rattle.format.specs.Result.{Result, value, answer}
use Rattle.format.specs.FreeList.{free_list}
use Rattle.free_list.specs.FreeBlocks.{chain, Held}
use Rattle.string_ends.specs.Ends.{Marked}
use Rattle.nul.specs.Nul.{LastNul}
use Rattle.segment.specs.declared.Segment.{Segment}

-- so many free blocks are held, the cells of the map are marked, and the last NUL is the last of so many bytes
pub record Known (seg map : List ℕ) (head free ended : ℕ) : Type 0 where
  pub held : Held seg map head free
  pub marked : Marked map seg (chain free seg head)
  pub last : LastNul seg ended

-- the free list that was read
abbrev pub list_of : List ℕ → ℕ → Option Segment → Result (List Block)
list_of seg head (Some s) = value (chain s.free seg head)
list_of seg head None = answer 9

abbrev pub KnownIf : List ℕ → List ℕ → ℕ → Option Segment → Type 0
KnownIf seg map head (Some s) = Known seg map head s.free s.ended
KnownIf seg map head None = Unit {0}

-- the list was read as the definition has it, and a segment whose list is sound is known
pub record SegmentIs (seg map : List ℕ) (head : ℕ) (r : Option Segment) : Type 0 where
  pub value : free_list seg head ≡ list_of seg head r
  pub known : KnownIf seg map head r
