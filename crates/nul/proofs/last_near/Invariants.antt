-- No byte from i on is a NUL.
use Prim.Native.Nat.{◌≤◌}
use lib.ListN.{length}
use Rattle.nul.specs.Nul.{NoneFrom}
use Rattle.nul.proofs.last_near.Given as goal

abbrev pub invariant-loop-i : goal.invariant-loop-i
invariant-loop-i l = (l.i ≤ length l.segment) × NoneFrom l.segment l.i
