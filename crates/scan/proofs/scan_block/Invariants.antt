-- Turn by turn, the messages from here on behind those that were read.
use Prim.Native.Nat.{◌-◌}
use Rattle.scan.proofs.ScanLaws.{Scanning}
use Rattle.scan.proofs.scan_block.Given as goal

abbrev pub invariant-loop-at : goal.invariant-loop-at
invariant-loop-at g l =
    Scanning g.V.MessageVisitor.visit l.image l.fn.span.from l.fn.span.end (g.V.MessageVisitor.state l.fn.found) l.fn.tally l.at (g.V.MessageVisitor.state l.found) l.tally
    × g.V.MessageVisitor.Kept l.fn.found (l.at - l.fn.span.from) l.found
    × g.V.MessageVisitor.Same l.fn.found l.found

abbrev pub decreases-loop-at : goal.decreases-loop-at
decreases-loop-at g l = l.fn.span.end - l.at
