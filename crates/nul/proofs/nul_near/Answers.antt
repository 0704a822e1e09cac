-- No byte before i is a NUL; each byte that is none moves i.
use Rattle.nul.proofs.NulLaws.{nul-here, nul-none}
use Rattle.nul.proofs.Search.{at-start, at_next, within-nul}
use native.Mathlib.Omega.{arith}
use mathlib.Core.Path.{◌≡◌}
use lib.ListN.{length}
use Rattle.nul.proofs.nul_near.Goals as goal

pub loop-i-init : goal.loop-i-init
loop-i-init c = at-start _ _ _ c.requires

pub returns-then-segment-i-eq0 : goal.returns-then-segment-i-eq0
returns-then-segment-i-eq0 c =
    within-nul _ _ _ c.loop-i.i c.loop-i.invariant (nul-here c.args.segment.now c.loop-i.i (omega arith) c.if-segment-i-eq0.true)

pub loop-i-preserved : goal.loop-i-preserved
loop-i-preserved c =
    at_next _ _ _ c.loop-i.i c.loop-i.invariant (omega arith) (omega arith) c.if-segment-i-eq0.false

pub returns : goal.returns
returns c =
    let l = c.loop-i in
    let seg = c.args.segment.now in
    let e : l.i ≡ length seg = omega (arith, l.invariant.inside) in
    rw e at (within-nul _ _ _ l.i l.invariant (nul-none seg l.i (omega arith)))
