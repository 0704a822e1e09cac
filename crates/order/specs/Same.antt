-- The bytes that two strings begin with.
use Rattle.std.specs.Prelude.{ℕ, ◌≤◌, ◌≡◌, List, length, take}

-- both have n bytes or more, and begin with the same n
pub record SameStart (a b : List ℕ) (n : ℕ) : Type 0 where
  pub first : n ≤ length a
  pub second : n ≤ length b
  pub same : take n a ≡ take n b
