-- An array of zeros has a place for every object.
use mathlib.Core.Path.{refl}
use Rattle.format.specs.Limits.{objects_most}
use native.Mathlib.Omega.{arith}
use Rattle.audit.proofs.fill.Goals as goal

pub copy_addresses-requires : goal.copy_addresses-requires
unfolding objects_most
copy_addresses-requires c = omega (arith, c.requires)

pub returns : goal.returns
unfolding objects_most
returns c = record { copied = c.copy_addresses.ensures; whole = refl }
