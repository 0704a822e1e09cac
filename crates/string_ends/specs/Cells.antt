-- What the number of one cell says, and a number that is marked.
use Rattle.std.specs.Prelude.{ℕ, ◌+◌, ◌*◌, ◌<◌, Bool, List, ◌≡◌, length}
use Rattle.format.specs.Blocks.{Block}
use Rattle.free_map.specs.FreeMap.{is_free, free_start, free_end, in_cell, Wide}
use Rattle.string_ends.specs.Ends.{ends_outside, marked}

-- v is the number of cell c: it has the free bytes of the cell and, if the last isn't free, a mark for the string behind the cell
pub record CellOf (seg : List ℕ) (bs : List Block) (c v : ℕ) : Type 0 where
  pub wide : Wide bs
  pub bytes : (x : ℕ) → x < 16 → 16 * c + x < length seg → in_cell v x ≡ is_free bs (16 * c + x)
  pub ends : free_end v ≡ 0 → free_start v < 16 → marked v ≡ ends_outside seg bs (16 * (c + 1))

-- r has the free bytes of v and, if the last isn't free, a mark exactly if t holds
pub record Remarked (v : ℕ) (t : Bool) (r : ℕ) : Type 0 where
  pub start : free_start r ≡ free_start v
  pub end : free_end r ≡ free_end v
  pub mark : free_end v ≡ 0 → free_start v < 16 → marked r ≡ t
