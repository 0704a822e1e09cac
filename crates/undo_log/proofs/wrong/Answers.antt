-- The wrong counts among the first i places are counted; each turn takes one place more.
use borrow.Author.Rules.{rules}
use native.Mathlib.Omega.{arith}
use mathlib.Core.Path.{◌≡◌, ap, ◌∙◌}
use lib.ListN.{length, get_or}
use Rattle.format.specs.Limits.{objects_most}
use Rattle.undo_log.proofs.LogLaws.{wrong-none, length_more, correction-right, correction-wrong}
use Rattle.undo_log.proofs.wrong.Goals as goal
use Rattle.undo_log.proofs.wrong.Goals.{then-ledger-i, else-ledger-i}

pub loop-i-init : goal.loop-i-init
loop-i-init c = (omega arith, rw (wrong-none c.args.ledger.now.addresses))

pub offset_bounds-ledger-i : goal.offset_bounds-ledger-i
unfolding objects_most
offset_bounds-ledger-i c = search rules

pub bounds-ledger-i : goal.bounds-ledger-i
unfolding objects_most
bounds-ledger-i c = search rules

pub offset_bounds-ledger-i-in-loop-i : goal.offset_bounds-ledger-i-in-loop-i
unfolding objects_most
offset_bounds-ledger-i-in-loop-i c = search rules

pub bounds-ledger-i-in-loop-i : goal.bounds-ledger-i-in-loop-i
unfolding objects_most
bounds-ledger-i-in-loop-i c = search rules

pub loop-i-preserved : goal.loop-i-preserved
loop-i-preserved c =
    let l = c.loop-i in
    let a = c.args.ledger.now in
    let m = length_more a.addresses a.stored a.true_counts l.i in
    elim c.if-ledger-i.branch [
      | then-ledger-i w ↦ (omega arith, omega (arith, m, ap length (correction-wrong (get_or a.addresses l.i 0) _ _ w.if-ledger-i.true)))
      | else-ledger-i w ↦ (omega arith, omega (arith, m, ap length (correction-right (get_or a.addresses l.i 0) _ _ w.if-ledger-i.false)))
    ]

pub returns : goal.returns
returns c =
    let l = c.loop-i in
    let e : l.i ≡ c.args.ledger.now.objects = omega arith in
    record { wrong = l.invariant.1 ∙ rw e; most = omega arith }
