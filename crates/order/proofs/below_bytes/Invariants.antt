-- The bytes passed are the same.
use Rattle.order.specs.Same.{SameStart}
use Rattle.order.proofs.below_bytes.Given as goal

abbrev pub invariant-loop-i : goal.invariant-loop-i
invariant-loop-i l = SameStart l.a l.b l.i
