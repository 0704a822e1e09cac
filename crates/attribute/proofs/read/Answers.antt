-- The first check that fails decides; a place behind a check knows what is left of the reader.
use native.Mathlib.Omega.{arith}
use Rattle.std.proofs.lemmas.Grind.{common_steps}
use Rattle.format.specs.Attribute.{read_attribute}
use Rattle.format.specs.Result.{◌>>=◌}
use Rattle.attribute.proofs.read.Goals as goal

pub returns-then-body-lt8 : goal.returns-then-body-lt8
unfolding read_attribute ◌>>=◌
returns-then-body-lt8 c = grind (arith, common_steps)

pub returns-then-version-lt1 : goal.returns-then-version-lt1
unfolding read_attribute ◌>>=◌
returns-then-version-lt1 c = grind (arith, common_steps)

pub returns-then-version-gt3 : goal.returns-then-version-gt3
unfolding read_attribute ◌>>=◌
returns-then-version-gt3 c = grind (arith, common_steps)

pub returns-then-not-flags_read : goal.returns-then-not-flags_read
unfolding read_attribute ◌>>=◌
returns-then-not-flags_read c = grind (arith, common_steps)

pub returns-then-body-end : goal.returns-then-body-end
unfolding read_attribute ◌>>=◌
returns-then-body-end c = grind (arith, common_steps)

pub returns-then-not-shares_type : goal.returns-then-not-shares_type
unfolding read_attribute ◌>>=◌
returns-then-not-shares_type c = grind (arith, common_steps)

pub returns : goal.returns
unfolding read_attribute ◌>>=◌
returns c = grind (arith, common_steps)
