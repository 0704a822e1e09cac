-- What the whole search finds is what is found from the ith byte on; sixteen bytes without it move i. The last sixteen have the rest.
use mathlib.Core.Path.{refl, sym, ◌∙◌}
use Rattle.std.proofs.Common.{rules, tests}
use Rattle.std.proofs.lemmas.Iterator.{YieldsList-from_slice}
use Rattle.std.proofs.lemmas.Iterator.Search.{any_from_yields_List}
use lib.Dec.{eqb}
use Rattle.order.proofs.Comparing.{any-contains}
use Rattle.order.proofs.Sixteen.{contains-found, contains-behind, contains-last}
use native.Mathlib.Omega.{arith}
use Rattle.order.proofs.contains.Goals as goal

pub returns-then-s-lt16 : goal.returns-then-s-lt16
returns-then-s-lt16 c =
    let x = c.args.x in
    let s = c.args.s.now in
    any_from_yields_List (λ y. eqb y x) _ _ _ c.any.ensures.ran (YieldsList-from_slice s cc) (λ y b q k. search (rules, tests)) ∙ any-contains x s

pub loop-i-init : goal.loop-i-init
loop-i-init c = (omega arith, refl)

pub returns-then-contains_at : goal.returns-then-contains_at
returns-then-contains_at c =
    let a = c.args in
    contains-found a.x a.s.now c.loop-i.i _ c.loop-i.invariant.1 (sym c.if-contains_at.true ∙ c.contains_at.ensures)

pub loop-i-preserved : goal.loop-i-preserved
loop-i-preserved c =
    let a = c.args in
    (omega arith, contains-behind a.x a.s.now c.loop-i.i _ c.loop-i.invariant.1 (sym c.if-contains_at.false ∙ c.contains_at.ensures))

pub returns : goal.returns
returns c =
    let a = c.args in
    c.contains_at-2.ensures ∙ contains-last a.x a.s.now c.loop-i.i (omega arith) (omega arith) c.loop-i.invariant.1
