-- A mending with room for so many blocks, in C.
use Rattle.std.specs.Prelude.{ℕ, ◌*◌, ◌/◌, List, ◌≡◌}
use Rattle.format.specs.Answers.{mend}
use Rattle.format.specs.Front.{CMend, c_mend_end}

-- the number returned and the bytes left in slices of l, g and r bytes and in the image are those of the definition with the words of so many blocks lent
abbrev pub MendsWith : List ℕ → ℕ → ℕ → ℕ → ℕ → ℕ → CMend → Type 0
MendsWith im l g r limit room x = x ≡ c_mend_end l g r (mend im (4 * room) (g / 8) limit)
