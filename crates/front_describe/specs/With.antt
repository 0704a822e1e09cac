-- A description with room for so many blocks, in C.
use Rattle.std.specs.Prelude.{ℕ, ◌*◌, List, ◌≡◌}
use Rattle.format.specs.Answers.{describe}
use Rattle.format.specs.Front.{CReply, c_describe_end}

-- the number returned and the bytes left in slices of l and r bytes are those of the definition with the words of so many blocks lent
abbrev pub DescribesWith : List ℕ → List ℕ → ℕ → ℕ → ℕ → CReply → Type 0
DescribesWith im path l r room x = x ≡ c_describe_end l r (describe im path (4 * room))
