-- No byte before i is a NUL; sixteen bytes without one move i.
use Prim.Native.Nat.{◌-◌}
use lib.ListN.{length}
use Rattle.nul.proofs.Search.{At}
use Rattle.nul.proofs.nul_within.Given as goal

abbrev pub invariant-loop-i : goal.invariant-loop-i
invariant-loop-i l = At l.segment l.off l.most l.i

abbrev pub decreases-loop-i : goal.decreases-loop-i
decreases-loop-i l = length l.segment - l.i
