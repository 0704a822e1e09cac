-- The first four bytes decide, or the last four, or the lengths.
use Rattle.order.proofs.Sixteen.{same_none}
use Rattle.order.proofs.Windows.{same-fewer, window-at, window_same, window-differ}
use native.Mathlib.Omega.{arith}
use Rattle.order.proofs.below_short.Goals as goal

pub returns-then-first_a-first_b : goal.returns-then-first_a-first_b
returns-then-first_a-first_b c =
    window-differ
    (window-at 4 (same_none _ _) c.four_at-first_a.ensures c.four_at-first_b.ensures
    (λ k. (c.type_inv.a k).fits) (λ k. (c.type_inv.b k).fits) (omega arith) (omega arith))
    c.if-first_a-first_b.true

pub returns-then-last_a-last_b : goal.returns-then-last_a-last_b
returns-then-last_a-last_b c =
    let first = window_same
    (window-at 4 (same_none _ _) c.four_at-first_a.ensures c.four_at-first_b.ensures
    (λ k. (c.type_inv.a k).fits) (λ k. (c.type_inv.b k).fits) (omega arith) (omega arith))
    c.if-first_a-first_b.false in
    window-differ
    (window-at 4 (same-fewer _ (omega arith) first) c.four_at-last_a.ensures c.four_at-last_b.ensures
    (λ k. (c.type_inv.a k).fits) (λ k. (c.type_inv.b k).fits) (omega arith) (omega arith))
    c.if-last_a-last_b.true

pub shorter-requires : goal.shorter-requires
shorter-requires c =
    let first = window_same
    (window-at 4 (same_none _ _) c.four_at-first_a.ensures c.four_at-first_b.ensures
    (λ k. (c.type_inv.a k).fits) (λ k. (c.type_inv.b k).fits) (omega arith) (omega arith))
    c.if-first_a-first_b.false in
    same-fewer _ (omega arith)
    (window_same
    (window-at 4 (same-fewer _ (omega arith) first) c.four_at-last_a.ensures c.four_at-last_b.ensures
    (λ k. (c.type_inv.a k).fits) (λ k. (c.type_inv.b k).fits) (omega arith) (omega arith))
    c.if-last_a-last_b.false)
