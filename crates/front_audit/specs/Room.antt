-- What the reply of an audit needs.
use Rattle.std.specs.Prelude.{ℕ, ◌+◌, ◌*◌, ◌≤◌, List, length}

-- r bytes hold the words of so many objects, and the lists have a place for each
pub record Roomy (r objects : ℕ) (addresses stored counts : List ℕ) : Type 0 where
  pub room : 16 + 24 * objects ≤ r
  pub addresses_long : objects ≤ length addresses
  pub stored_long : objects ≤ length stored
  pub counts_long : objects ≤ length counts
