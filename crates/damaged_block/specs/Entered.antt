-- How many blocks stand at the head of a list that was filled with the undefined address.
use Rattle.std.specs.Prelude.{ℕ, ◌*◌, ◌≤◌, ◌<◌, List, ◌≡◌, length, get_or}
use Rattle.format.specs.Bytes.{undefined_address}
use Rattle.walk.specs.Lent.{places_of}

-- the first n blocks have an address, and the next, if there is room for one, has none: so there is one such n
pub record Leading (ws : List ℕ) (n : ℕ) : Type 0 where
  pub within : n ≤ places_of (length ws)
  pub before : (k : ℕ) → k < n → get_or ws (4 * k) 0 ≡ undefined_address → ⊥
  pub after : n < places_of (length ws) → get_or ws (4 * n) 0 ≡ undefined_address
