-- Block by block, what waited at the start waits in the blocks from here on.
use mathlib.Core.Logic.{inl}
use mathlib.Core.Path.{refl}
use Rattle.continuations.proofs.ContinuationLaws.{found-here, none-here, next-block, none-later}
use native.Mathlib.Omega.{arith}
use Rattle.continuations.proofs.seek.Goals as goal

pub returns-then-at-end : goal.returns-then-at-end
returns-then-at-end c = λ waiting w. found-here _ _ _ _ waiting _ w c.next_continuation-at.ensures c.if-at-end.true

pub loop-block-init : goal.loop-block-init
loop-block-init c = λ waiting w. none-here _ _ _ _ waiting _ w c.next_continuation-at.ensures c.if-at-end.false

pub overflow_add-end-in-loop-block : goal.overflow_add-end-in-loop-block
overflow_add-end-in-loop-block c =
    omega (arith, (next-block _ _ _ _ _ (c.loop-block.invariant _ c.requires.ready.1) c.loop-block-test.true).holds.inside)

pub next_continuation-at-requires-in-loop-block : goal.next_continuation-at-requires-in-loop-block
next_continuation-at-requires-in-loop-block c =
    let w = next-block _ _ _ _ _ (c.loop-block.invariant _ c.requires.ready.1) c.loop-block-test.true in
    (w.here, w.holds)

pub returns-then-at-end-2 : goal.returns-then-at-end-2
returns-then-at-end-2 c = λ waiting w.
    let n = next-block _ _ _ _ waiting (c.loop-block.invariant waiting w) c.loop-block-test.true in
    found-here _ _ _ _ waiting _ n c.next_continuation-at-in-loop-block.ensures c.if-at-end-2.true

pub loop-block-preserved : goal.loop-block-preserved
loop-block-preserved c = λ waiting w.
    let n = next-block _ _ _ _ waiting (c.loop-block.invariant waiting w) c.loop-block-test.true in
    none-here _ _ _ _ waiting _ n c.next_continuation-at-in-loop-block.ensures c.if-at-end-2.false

pub returns : goal.returns
returns c = λ waiting w. inl (refl, none-later _ _ _ _ waiting (c.loop-block.invariant waiting w) c.loop-block-test.false)
