-- Numbers of cells: how they are made, and a search in one cell.
use Rattle.std.specs.Prelude.{ℕ, ◌+◌, ◌-◌, ◌*◌, ◌≤◌, ◌<◌, Bool, ◌||◌, List, ◌≡◌, ltb, leb, eqb, length, get_or, if◌then◌else◌}
use Rattle.free_map.specs.FreeMap.{free_start, free_end}

-- the number of a cell with so many free bytes at its start and at its end
unfoldable pub joined_cell : ℕ → ℕ → ℕ
joined_cell start end = if leb 16 (start + end) then 16 else if eqb end 0 then start else 33 + (end - 1) * 15 + start

-- one of the bytes of a cell from `from` up to `end` is free
abbrev pub cell_meets : ℕ → ℕ → ℕ → Bool
cell_meets v from end = ltb from (free_start v) || ltb 16 (end + free_end v)

-- the cells from `from` up to `end` are free, the others stay
pub record Filled (map : List ℕ) (from end : ℕ) (map' : List ℕ) : Type 0 where
  pub whole : (k : ℕ) → from ≤ k → k < end → get_or map' k 0 ≡ 16
  pub below : (k : ℕ) → k < from → get_or map' k 0 ≡ get_or map k 0
  pub above : (k : ℕ) → end ≤ k → get_or map' k 0 ≡ get_or map k 0
  pub long : length map' ≡ length map
