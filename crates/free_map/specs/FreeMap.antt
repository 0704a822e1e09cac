-- A map of a segment's free bytes: a number for each 16 bytes, which are a cell.
use Rattle.std.specs.Prelude.{ℕ, ◌+◌, ◌-◌, ◌/◌, ◌%◌, ◌≤◌, ◌<◌, Bool, ◌||◌, List, [], ◌∷◌, ◌≡◌, ltb, leb, length, get_or, if◌then◌else◌}
use Rattle.format.specs.Blocks.{Block, overlaps_any}

-- the byte i lies in a free block
abbrev pub is_free : List Block → ℕ → Bool
is_free bs i = overlaps_any bs i 1

-- How many bytes at the start of a cell are free, and how many at its end. A free block has 16 bytes or more, so that no others are.
-- A number up to 16 stands for so many at the start; from 17 to 32 for 17 less at the start, in a cell that is marked; from 33 on for both.
abbrev pub free_start : ℕ → ℕ
free_start v = if ltb v 17 then v else if ltb v 33 then v - 17 else (v - 33) % 15

abbrev pub free_end : ℕ → ℕ
free_end v = if ltb v 33 then 0 else (v - 33) / 15 + 1

-- the byte x of a cell is free
abbrev pub in_cell : ℕ → ℕ → Bool
in_cell v x = ltb x (free_start v) || leb 16 (x + free_end v)

-- each block has 16 bytes or more
abbrev pub Wide : List Block → Type 0
Wide [] = Unit {0}
Wide (b ∷ bs) = (16 ≤ b.size) × Wide bs

-- the map has the free bytes of a segment with these free blocks
pub record MapOf (map seg : List ℕ) (bs : List Block) : Type 0 where
  pub wide : Wide bs
  pub bytes : (i : ℕ) → i < length seg → in_cell (get_or map (i / 16) 0) (i % 16) ≡ is_free bs i
