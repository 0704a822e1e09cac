-- No byte before i is a NUL; sixteen bytes without one move i.
use mathlib.Core.Path.{sym, ◌∙◌}
use Rattle.nul.proofs.Search.{at-start, at-16}
use native.Mathlib.Omega.{arith}
use Rattle.nul.proofs.nul_within.Goals as goal

pub loop-i-init : goal.loop-i-init
loop-i-init c = at-start _ _ _ c.requires

pub loop-i-preserved : goal.loop-i-preserved
loop-i-preserved c =
    let l = c.loop-i in
    at-16 _ _ _ l.i l.invariant (omega arith) (omega arith) (sym c.contains_at.ensures ∙ c.if-contains_at.false)
