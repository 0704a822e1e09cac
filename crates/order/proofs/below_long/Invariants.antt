-- The bytes passed are the same. Of the last eight bytes those that were passed are the same, too.
use Prim.Native.Nat.{◌-◌}
use Rattle.order.specs.Same.{SameStart}
use Rattle.order.proofs.below_long.Given as goal

abbrev pub invariant-loop-i : goal.invariant-loop-i
invariant-loop-i l = SameStart l.a l.b l.i

abbrev pub decreases-loop-i : goal.decreases-loop-i
decreases-loop-i l = l.end - l.i
