-- With 5 no block is met.
use mathlib.Core.Path.{refl}
use Rattle.walk.proofs.blocks.outside.Goals as goal

pub returns : goal.returns
returns c = rw c.not_entered.ensures refl
