-- The words from i on have moved up.
use mathlib.Core.Path.{◌≡◌}
use Rattle.ordering.proofs.RaiseLaws.{raised-none, raised-more}
use native.Mathlib.Omega.{arith}
use Rattle.ordering.proofs.raise.Goals as goal

pub loop-i-init : goal.loop-i-init
loop-i-init c = (omega arith, omega arith, raised-none _ _ _)

pub loop-i-preserved : goal.loop-i-preserved
loop-i-preserved c =
    let l = c.loop-i in
    (omega arith, omega arith, raised-more _ l.words l.i _ _ (omega arith) (omega arith) (omega arith) l.invariant.2)

pub returns : goal.returns
returns c =
    let l = c.loop-i in
    let e : l.i ≡ c.args.first = omega arith in
    rw e at l.invariant.2
