-- No byte from i on is a NUL.
use Rattle.nul.proofs.Search.{none-next}
use native.Mathlib.Omega.{arith}
use Rattle.nul.proofs.last_near.Goals as goal

pub loop-i-preserved : goal.loop-i-preserved
loop-i-preserved c =
    let l = c.loop-i in
    (omega arith, none-next c.args.segment.now l.i (omega arith) (omega arith) c.if-segment-i-eq0.false l.invariant.1)

pub returns : goal.returns
returns c =
    let l = c.loop-i in
    record { within = omega arith; there = λ h. absurd (omega arith); none = λ k h. l.invariant.1 k (omega arith) }
