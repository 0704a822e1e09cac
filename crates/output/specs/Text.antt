-- The lines that the command prints, one at a time, and the bytes that they take.
use Rattle.std.specs.Prelude.{ℕ, ◌+◌, ◌*◌, ◌≤◌, List, [], ◌∷◌, ◌++◌, ◌≡◌, length, take, drop}
use Rattle.format.specs.Limits.{objects_most}
use Rattle.format.specs.Command.{hex, object_lines, command}

-- "First: answer, object count (8 digits each)."
abbrev pub first_line : ℕ → ℕ → List ℕ
first_line answer objects = hex 8 answer ++ hex 8 objects ++ (0x0a ∷ [])

-- "Then per object: address (16), stored (8), true (8)."
abbrev pub object_line : ℕ → ℕ → ℕ → List ℕ
object_line address stored links = object_lines (record { address = address; stored_count = stored; true_count = links } ∷ [])

-- the most bytes that are printed: the first line, and a line for each object
unfoldable pub output_most : ℕ
output_most = 17 + 33 * objects_most

-- of the bytes left, the first r are what the command prints for the input, and the others are as before
pub record Printed (input before left : List ℕ) (r : ℕ) : Type 0 where
  pub within : r ≤ length left
  pub text : take r left ≡ command input
  pub rest : drop r left ≡ drop r before
