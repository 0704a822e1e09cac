-- A lookup with room for so many blocks, in C.
use Rattle.std.specs.Prelude.{ℕ, ◌*◌, List, ◌≡◌}
use Rattle.format.specs.Answers.{lookup}
use Rattle.format.specs.Front.{CReply, c_lookup_end}

-- the number returned and the bytes left in slices of l and r bytes are those of the definition with the words of so many blocks lent
abbrev pub LooksUpWith : List ℕ → List ℕ → ℕ → ℕ → ℕ → CReply → Type 0
LooksUpWith im path l r room x = x ≡ c_lookup_end l r (lookup im path (4 * room))
