-- Lists of bytes, and counts held as bytes.
use Rattle.std.specs.Prelude.{ℕ, ◌<◌, List, ◌≡◌, get_or}
use Rattle.format.specs.Bytes.{part, to_bytes}

-- every element is a byte, as in every image that code is lent
abbrev pub IsBytes : List ℕ → Type 0
IsBytes im = (k : ℕ) → get_or im k 0 < 256

-- the four bytes at a are those of the count x
abbrev pub HoldsCount : List ℕ → ℕ → ℕ → Type 0
HoldsCount im a x = part im a 4 ≡ to_bytes 4 x
