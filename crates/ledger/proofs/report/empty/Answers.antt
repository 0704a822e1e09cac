-- The constant computes to the limit.
use mathlib.Core.Path.{refl}
use Rattle.format.specs.Limits.{objects_most}
use Rattle.ledger.proofs.report.empty.Goals as goal

pub returns : goal.returns
unfolding objects_most
returns c = record { none = refl; addresses_zero = refl; stored_zero = refl; counts_zero = refl }
