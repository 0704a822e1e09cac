-- Numbers that fit a word of C.
use Rattle.std.specs.Prelude.{ℕ, ◌^◌, ◌<◌}

-- a number of 64 bits
abbrev pub IsWord : ℕ → Type 0
IsWord n = n < 2 ^ 64
