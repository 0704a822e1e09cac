-- No byte before the kth is a NUL; the string's NUL is met before the segment's end.
use Prim.Native.Nat.{◌+◌}
use mathlib.Core.Path.{◌≡◌}
use Rattle.nul.proofs.NulLaws.{nul-here, nul-later}
use native.Mathlib.Omega.{arith}
use Rattle.names.proofs.string_size.Goals as goal

pub returns-then-segment-off-eq0 : goal.returns-then-segment-off-eq0
returns-then-segment-off-eq0 c =
    omega (arith, c.loop-k.invariant, nul-here c.args.segment.now (c.args.off + c.loop-k.k) (omega arith) c.if-segment-off-eq0.true)

pub loop-k-preserved : goal.loop-k-preserved
loop-k-preserved c =
    let e : c.args.off + (c.loop-k.k + 1) ≡ c.args.off + c.loop-k.k + 1 = omega arith in
    rw e (omega (arith, c.loop-k.invariant, nul-later c.args.segment.now (c.args.off + c.loop-k.k) (omega arith) c.if-segment-off-eq0.false))
