-- The bytes passed are the same. Of the last eight bytes those that were passed are the same, too.
use Rattle.order.proofs.Windows.{same-fewer, window-at, window_same, window-differ}
use native.Mathlib.Omega.{arith}
use Rattle.order.proofs.below_long.Goals as goal

pub loop-i-init : goal.loop-i-init
loop-i-init c = c.requires.same_start

pub overflow_sub-end : goal.overflow_sub-end
overflow_sub-end c = omega (arith, c.loop-i.invariant.first, c.loop-i.invariant.second)

pub eight_at-next_a-requires : goal.eight_at-next_a-requires
eight_at-next_a-requires c = let l = c.loop-i in omega (arith, l.invariant.first, l.invariant.second)

pub eight_at-next_b-requires : goal.eight_at-next_b-requires
eight_at-next_b-requires c = let l = c.loop-i in omega (arith, l.invariant.first, l.invariant.second)

pub returns-then-next_a-next_b : goal.returns-then-next_a-next_b
returns-then-next_a-next_b c =
    window-differ
    (window-at 8 c.loop-i.invariant c.eight_at-next_a.ensures c.eight_at-next_b.ensures (λ k. (c.type_inv.a k).fits) (λ k. (c.type_inv.b k).fits)
    (omega (arith, c.loop-i.invariant.first, c.loop-i.invariant.second)) (omega (arith, c.loop-i.invariant.first, c.loop-i.invariant.second)))
    c.if-next_a-next_b.true

pub overflow_add-i : goal.overflow_add-i
overflow_add-i c = let l = c.loop-i in omega (arith, l.invariant.first, l.invariant.second)

pub loop-i-smaller : goal.loop-i-smaller
loop-i-smaller c = let l = c.loop-i in omega (arith, l.invariant.first, l.invariant.second)

pub loop-i-preserved : goal.loop-i-preserved
loop-i-preserved c =
    window_same
    (window-at 8 c.loop-i.invariant c.eight_at-next_a.ensures c.eight_at-next_b.ensures (λ k. (c.type_inv.a k).fits) (λ k. (c.type_inv.b k).fits)
    (omega (arith, c.loop-i.invariant.first, c.loop-i.invariant.second)) (omega (arith, c.loop-i.invariant.first, c.loop-i.invariant.second)))
    c.if-next_a-next_b.false

pub returns-then-last_a-last_b : goal.returns-then-last_a-last_b
returns-then-last_a-last_b c =
    window-differ
    (window-at 8 (same-fewer _ (omega arith) c.loop-i.invariant) c.eight_at-last_a.ensures c.eight_at-last_b.ensures
    (λ k. (c.type_inv.a k).fits) (λ k. (c.type_inv.b k).fits) (omega arith) (omega arith))
    c.if-last_a-last_b.true

pub shorter-requires : goal.shorter-requires
shorter-requires c = same-fewer _ (omega arith) (window_same
    (window-at 8 (same-fewer _ (omega arith) c.loop-i.invariant) c.eight_at-last_a.ensures c.eight_at-last_b.ensures
    (λ k. (c.type_inv.a k).fits) (λ k. (c.type_inv.b k).fits) (omega arith) (omega arith))
    c.if-last_a-last_b.false)
