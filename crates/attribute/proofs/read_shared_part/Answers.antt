-- The first check that fails decides; where both pass, the address is read.
use native.Mathlib.Omega.{arith}
use Rattle.std.proofs.lemmas.Grind.{common_steps}
use Rattle.format.specs.Attribute.{read_shared_part}
use Rattle.format.specs.Result.{◌>>=◌}
use Rattle.attribute.proofs.read_shared_part.Goals as goal

pub returns-then-part-lt10 : goal.returns-then-part-lt10
unfolding read_shared_part ◌>>=◌
returns-then-part-lt10 c = grind (arith, common_steps)

pub returns-then-not-shared_read : goal.returns-then-not-shared_read
unfolding read_shared_part ◌>>=◌
returns-then-not-shared_read c = grind (arith, common_steps)

pub returns : goal.returns
unfolding read_shared_part ◌>>=◌
returns c = grind (arith, common_steps)
