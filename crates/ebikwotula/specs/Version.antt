-- The version of what the C calls take and give.
use Rattle.std.specs.Prelude.{ℕ}

-- raised with every change of a word, an answer, a limit or the stack
abbrev pub version : ℕ
version = 6
