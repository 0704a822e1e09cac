-- The constant is the definition's.
use Rattle.format.specs.Limits.{objects_most}
use native.Mathlib.Omega.{arith}
use Rattle.front_mend.proofs.log_room.Goals as goal

pub returns : goal.returns
unfolding objects_most
returns c = omega (arith, c.min.ensures)
