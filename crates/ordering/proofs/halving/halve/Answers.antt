-- A test moves the one bound or the other to the middle.
use Prim.Native.Nat.{◌+◌, ◌-◌, ◌/◌}
use mathlib.Core.Path.{◌≡◌}
use native.Mathlib.Omega.{arith}
use Rattle.ordering.proofs.HalvingLaws.{halved-more}
use Rattle.ordering.proofs.halving.halve.Goals as goal

pub overflow_add-tests : goal.overflow_add-tests
overflow_add-tests g c = omega (arith, (c.loop-low.invariant.tests 64 (omega arith)).0)

pub loop-low-preserved-then-before : goal.loop-low-preserved-then-before
loop-low-preserved-then-before g c =
    let l = c.loop-low in record {
      ordered = omega arith;
      most = l.invariant.most;
      last = λ k h. let e : k ≡ l.low + (l.high - l.low) / 2 = omega arith in rw e c.if-before.ensures;
      next = l.invariant.next;
      tests = halved-more _ _ (l.high - l.low) _ (omega arith) (omega arith) l.invariant.tests;
    }

pub loop-low-preserved : goal.loop-low-preserved
loop-low-preserved g c =
    let l = c.loop-low in record {
      ordered = omega arith;
      most = omega arith;
      last = l.invariant.last;
      next = λ h. c.if-before.ensures;
      tests = halved-more _ _ (l.high - l.low) _ (omega arith) (omega arith) l.invariant.tests;
    }
