-- The bytes passed are the same.
use mathlib.Core.Path.{sym, ◌∙◌}
use Rattle.order.proofs.Sixteen.{same_none, same_more}
use native.Mathlib.Omega.{arith}
use Rattle.order.proofs.same_start.Goals as goal

pub loop-i-init : goal.loop-i-init
loop-i-init c = same_none _ _

pub overflow_sub-a : goal.overflow_sub-a
overflow_sub-a c = omega (arith, c.loop-i.invariant.first)

pub overflow_sub-b : goal.overflow_sub-b
overflow_sub-b c = omega (arith, c.loop-i.invariant.second)

pub returns-then-b-i-lt16 : goal.returns-then-b-i-lt16
returns-then-b-i-lt16 c = c.loop-i.invariant

pub same_16-requires : goal.same_16-requires
same_16-requires c = (omega (arith, c.loop-i.invariant.first), omega (arith, c.loop-i.invariant.second))

pub returns-then-not-same_16 : goal.returns-then-not-same_16
returns-then-not-same_16 c = c.loop-i.invariant

pub overflow_add-i : goal.overflow_add-i
overflow_add-i c = omega (arith, c.loop-i.invariant.first)

pub loop-i-smaller : goal.loop-i-smaller
loop-i-smaller c = omega (arith, c.loop-i.invariant.first)

pub loop-i-preserved : goal.loop-i-preserved
loop-i-preserved c =
    let l = c.loop-i in
    same_more _ _ l.i 16 (omega (arith, l.invariant.first)) (omega (arith, l.invariant.second)) l.invariant
    (sym c.same_16.ensures ∙ c.if-not-same_16.false)

pub returns : goal.returns
returns c = c.loop-i.invariant
