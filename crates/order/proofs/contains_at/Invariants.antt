-- It was found exactly if it is one of the bytes looked at.
use mathlib.Core.Path.{◌≡◌}
use lib.Dec.{eqb}
use Rattle.format.specs.Bytes.{part, contains}
use Rattle.order.proofs.contains_at.Given as goal

abbrev pub invariant-loop-k : goal.invariant-loop-k
invariant-loop-k g l = eqb l.found 1 ≡ contains l.x (part l.s l.at l.k)
