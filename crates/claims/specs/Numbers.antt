-- The numbers that each call can give, of document 01's table "Replies".
use Rattle.std.specs.Prelude.{ℕ, List, [], ◌∷◌, ◌++◌}

-- the audit: 0 done, up to 13 "no room for the next block"
abbrev pub audit_numbers : List ℕ
audit_numbers = 0 ∷ 1 ∷ 2 ∷ 3 ∷ 4 ∷ 5 ∷ 6 ∷ 7 ∷ 8 ∷ 9 ∷ 10 ∷ 11 ∷ 12 ∷ 13 ∷ []

-- a lookup reads no dataset's messages (11) and counts no objects (12)
abbrev pub lookup_numbers : List ℕ
lookup_numbers = 0 ∷ 1 ∷ 2 ∷ 3 ∷ 4 ∷ 5 ∷ 6 ∷ 7 ∷ 8 ∷ 9 ∷ 10 ∷ 13 ∷ 14 ∷ 15 ∷ 16 ∷ 17 ∷ []

-- "Description looks up (20 unless kind 2), then reads the dataset's messages"
abbrev pub describe_numbers : List ℕ
describe_numbers = lookup_numbers ++ (11 ∷ 20 ∷ [])

-- "18 exactly if the log can't hold them all"
abbrev pub mend_numbers : List ℕ
mend_numbers = audit_numbers ++ (18 ∷ [])

-- "answer 1 first, 18 if fewer than 2e words, 19 if any of the e fields leaves the image or holds neither old nor new"
abbrev pub undo_numbers : List ℕ
undo_numbers = 0 ∷ 1 ∷ 18 ∷ 19 ∷ []

-- "Under 770, 3 or 1 words gives 13 first, in C only", "C's 770 words become 3,074": 13 is a number of all other calls already
abbrev pub c_undo_numbers : List ℕ
c_undo_numbers = undo_numbers ++ (13 ∷ [])

-- the numbers of a lookup on an accepted image with room enough: 0, a bad path, a name that is absent, a link or a non-group on the way
abbrev pub found_numbers : List ℕ
found_numbers = 0 ∷ 14 ∷ 15 ∷ 16 ∷ 17 ∷ []

-- these, and 20: no dataset
abbrev pub described_numbers : List ℕ
described_numbers = 0 ∷ 14 ∷ 15 ∷ 16 ∷ 17 ∷ 20 ∷ []
