-- The blocks that a function is lent, and what it returns beside their number.
use Rattle.std.specs.Prelude.{ℕ, ◌≡◌, length, Result, Ok, Err}
use Rattle.walk.specs.declared.blocks.Blocks.{Blocks}

-- a value, and the number of blocks then entered
abbrev pub with_count : {E : Type 0} → Result (Unit {0}) E → ℕ → Result ℕ E
with_count (Ok u) count = Ok count
with_count (Err r) count = Err r

-- the same words are lent, whatever they hold now
pub record SameWords (b b' : Blocks) : Type 0 where
  pub same : b'.words.ghost_name ≡ b.words.ghost_name
  pub long : length b'.words.now ≡ length b.words.now
