-- No byte from `end` on is a NUL; sixteen bytes without one move `end`.
use Prim.Native.Nat.{◌≤◌}
use lib.ListN.{length}
use Rattle.nul.specs.Nul.{NoneFrom}
use Rattle.nul.proofs.last_nul.Given as goal

abbrev pub invariant-loop-end : goal.invariant-loop-end
invariant-loop-end l = (l.end ≤ length l.segment) × NoneFrom l.segment l.end

abbrev pub decreases-loop-end : goal.decreases-loop-end
decreases-loop-end l = l.end
