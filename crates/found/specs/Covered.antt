-- What a run is shown, held against what another is shown.
use Rattle.std.specs.Prelude.{ℕ}
use mathlib.Core.List.{List, [], Memᴰ}
use Rattle.format.specs.Blocks.{room_of}
use Rattle.format.specs.Walk.{length_in}
use Rattle.format.specs.Superblock.{Superblock}
use Rattle.format.specs.Audit.{audit_walk}
use Rattle.laws.specs.Shown.{Shown, contents, size, shown_by}

-- a block shown is among these, as a block of the same kind; of a block that is refused the length is shown, and the block is among these
abbrev pub Covered : List ℕ → List Shown → Shown → Type 0
Covered im ss (contents v a n) = Memᴰ (contents v a n) ss
Covered im ss (size v a l) = Memᴰ (contents v a (length_in im v a l)) ss

-- all that is shown in the first list is covered by the second
abbrev pub AllCovered : List ℕ → List Shown → List Shown → Type 0
AllCovered im ss ts = (x : Shown) → Memᴰ x ss → Covered im ts x

-- what the audit is shown with so many words lent
abbrev pub audit_shown : List ℕ → Superblock → ℕ → List Shown
audit_shown im s lent = shown_by im s.end_of_file (room_of lent) (audit_walk s) []
