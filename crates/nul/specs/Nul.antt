-- Where the NULs of a segment stand.
use Rattle.std.specs.Prelude.{ℕ, ◌+◌, ◌-◌, ◌≤◌, ◌<◌, min, List, ◌≡◌, length, get_or, drop}
use Rattle.format.specs.Names.{before_nul}

-- the first NUL from off on stands at r, if it is one of the next bytes, so many at most; else r is behind these, or the segment's end
pub record NulWithin (seg : List ℕ) (off most r : ℕ) : Type 0 where
  pub value : r ≡ off + min (before_nul (drop off seg)) most
  pub inside : r ≤ length seg

-- no byte from end on is a NUL
abbrev pub NoneFrom : List ℕ → ℕ → Type 0
NoneFrom seg end = (k : ℕ) → end ≤ k → k < length seg → get_or seg k 0 ≡ 0 → ⊥

-- the last NUL is the last of the first `ended` bytes; there is none if these are none
pub record LastNul (seg : List ℕ) (ended : ℕ) : Type 0 where
  pub within : ended ≤ length seg
  pub there : 0 < ended → get_or seg (ended - 1) 0 ≡ 0
  pub none : NoneFrom seg ended
