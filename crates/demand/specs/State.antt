-- The states of an image between a mend and its undo.
use Rattle.std.specs.Prelude.{ℕ, ◌+◌, ◌≤◌, ◌<◌, ◌⊎◌, ◌≡◌, length, get_or}
use mathlib.Core.List.{List, Memᴰ}
use Rattle.format.specs.Log.{Change}
use Rattle.demand.specs.Bytes.{HoldsCount}

-- byte i is one of the four of the change's field
abbrev pub InChange : Change → ℕ → Type 0
InChange c i = (c.field ≤ i) × (i < c.field + 4)

-- im' is im but for the fields of the changes cs, each of which holds its old or its new count
pub record State (im : List ℕ) (cs : List Change) (im' : List ℕ) : Type 0 where
  pub same_length : length im ≡ length im'
  pub held : (c : Change) → Memᴰ c cs → HoldsCount im' c.field c.old ⊎ HoldsCount im' c.field c.new
  pub elsewhere : (i : ℕ) → ((c : Change) → Memᴰ c cs → InChange c i → ⊥) → get_or im i 0 ≡ get_or im' i 0
