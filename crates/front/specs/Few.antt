-- The sizes of a working list.
use Rattle.std.specs.Prelude.{ℕ}

-- the blocks of the smaller one
abbrev pub few_blocks : ℕ
few_blocks = 64
