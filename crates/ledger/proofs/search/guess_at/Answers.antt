-- The constants are the numbers of the definition.
use Rattle.format.specs.Limits.{objects_most}
use Rattle.ledger.specs.Index.{guess_at}
use native.Mathlib.Omega.{arith}
use Rattle.ledger.proofs.search.guess_at.Goals as goal

pub returns : goal.returns
unfolding guess_at objects_most
returns c = omega arith
