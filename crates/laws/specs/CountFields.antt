-- Count fields: "reference count 4 (at address + 4)".
use Rattle.std.specs.Prelude.{ℕ, ◌+◌, ◌≤◌, ◌<◌, List, ◌≡◌, length, get_or}

-- byte i lies in the count field of the header at h
abbrev pub InField : ℕ → ℕ → Type 0
InField h i = (h + 4 ≤ i) × (i < h + 8)

-- two images of equal length that differ only in the count fields of a set of headers: H is the set, by their addresses
pub record OnlyCounts (H : ℕ → Type 0) (im im' : List ℕ) : Type 0 where
  pub same_length : length im ≡ length im'
  pub elsewhere : (i : ℕ) → ((h : ℕ) → H h → InField h i → ⊥) → get_or im i 0 ≡ get_or im' i 0
