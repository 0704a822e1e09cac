-- The answers of a lookup and of a description on an image that the audit accepts.
use Rattle.std.specs.Prelude.{ℕ}
use mathlib.Core.List.{List, [], ◌∷◌, Memᴰ}

-- one of these numbers
abbrev pub OneOf : List ℕ → ℕ → Type 0
OneOf ns n = Memᴰ n ns

-- 0 done, 13 "no room for the next block", 14 a bad path, 15 "name absent", 16 "symbolic link before the last component", 17 "non-group before the last
-- component"
abbrev pub accepted_lookup_numbers : List ℕ
accepted_lookup_numbers = 0 ∷ 13 ∷ 14 ∷ 15 ∷ 16 ∷ 17 ∷ []

-- these, and 20: the object found is no dataset
abbrev pub accepted_describe_numbers : List ℕ
accepted_describe_numbers = 0 ∷ 13 ∷ 14 ∷ 15 ∷ 16 ∷ 17 ∷ 20 ∷ []
