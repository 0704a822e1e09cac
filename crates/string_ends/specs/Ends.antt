-- Which strings of a segment end outside its free blocks.
use Rattle.std.specs.Prelude.{ℕ, ◌+◌, ◌*◌, ◌≤◌, ◌<◌, Bool, not, ◌&&◌, List, ◌≡◌, ltb, leb, length, get_or, drop}
use Rattle.format.specs.Blocks.{Block, overlaps_any}
use Rattle.format.specs.Names.{before_nul}
use Rattle.free_map.specs.FreeMap.{free_start, free_end}

-- the string at off ends in a NUL inside the segment, and no byte of it, its NUL included, is free
unfoldable pub ends_outside : List ℕ → List Block → ℕ → Bool
ends_outside seg bs off = ltb (off + before_nul (drop off seg)) (length seg) && not (overlaps_any bs off (before_nul (drop off seg) + 1))

-- the cell is marked
abbrev pub marked : ℕ → Bool
marked v = leb 17 v && ltb v 33

-- The map is long enough, or there is none. A cell whose last byte isn't free is marked exactly if the string behind the cell ends outside the
-- free blocks: so does then every string that goes on behind the cell without meeting a free byte before.
pub record Marked (map seg : List ℕ) (bs : List Block) : Type 0 where
  pub long : 0 < length map → length seg ≤ 16 * length map
  pub ends : (c : ℕ) → c < length map → free_end (get_or map c 0) ≡ 0 → free_start (get_or map c 0) < 16 →
      marked (get_or map c 0) ≡ ends_outside seg bs (16 * (c + 1))
