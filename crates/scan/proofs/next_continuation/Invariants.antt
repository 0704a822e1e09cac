-- Turn by turn, the messages from here on have all the continuations that are left.
use Prim.Native.Nat.{◌-◌}
use Rattle.scan.specs.Scan.{Readable}
use Rattle.scan.proofs.ScanLaws.{Seeking}
use Rattle.scan.proofs.next_continuation.Given as goal

abbrev pub invariant-loop-at : goal.invariant-loop-at
invariant-loop-at l = Readable l.image l.at l.span.end × Seeking l.image l.span.from l.span.end l.at

abbrev pub decreases-loop-at : goal.decreases-loop-at
decreases-loop-at l = l.span.end - l.at
