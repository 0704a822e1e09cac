-- The one before `low` stands before the place, that at `high` doesn't; each test halves what is between them.
use Prim.Native.Nat.{ℕ, ◌+◌, ◌-◌, ◌≤◌, ◌<◌}
use mathlib.Core.Bool.{true, false}
use mathlib.Core.Path.{◌≡◌}
use Rattle.ordering.proofs.HalvingLaws.{Halved}
use Rattle.ordering.proofs.halving.halve.Given as goal

abbrev pub invariant-loop-low : goal.invariant-loop-low
invariant-loop-low g l = record {
  ordered : l.low ≤ l.high;
  most : l.high ≤ l.count;
  last : (k : ℕ) → k + 1 ≡ l.low → goal.F-post g l.before k true;
  next : l.high < l.count → goal.F-post g l.before l.high false;
  tests : Halved l.count l.tests (l.high - l.low);
}

abbrev pub decreases-loop-low : goal.decreases-loop-low
decreases-loop-low g l = l.high - l.low
