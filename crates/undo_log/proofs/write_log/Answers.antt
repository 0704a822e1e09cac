-- The entries of the first i places are written; each turn writes that of one place more. Then the rest is cleared.
use borrow.Author.Rules.{rules}
use native.Mathlib.Omega.{arith}
use Prim.Native.Nat.{◌+◌, ◌≤◌, ◌<◌}
use mathlib.Core.Path.{◌≡◌, refl}
use lib.ListN.{length}
use Rattle.format.specs.Limits.{objects_most}
use Rattle.format.specs.Log.{log_words}
use Rattle.undo_log.proofs.LogLaws.{wrong-none, room-more, words_more, words-all, news-more, wrong-within}
use Rattle.undo_log.proofs.write_log.Goals as goal
use Rattle.undo_log.proofs.write_log.Goals.{After-loop-i}

pub loop-i-init : goal.loop-i-init
unfolding log_words
loop-i-init c =
    let a = c.args.ledger.now in
    let z = wrong-none a.addresses a.stored a.true_counts in
    (refl, rw z, rw z, rw z tt)

pub offset_bounds-ledger-i : goal.offset_bounds-ledger-i
unfolding objects_most
offset_bounds-ledger-i c = search rules

pub bounds-ledger-i : goal.bounds-ledger-i
unfolding objects_most
bounds-ledger-i c = search rules

pub offset_bounds-ledger-i-in-loop-i : goal.offset_bounds-ledger-i-in-loop-i
unfolding objects_most
offset_bounds-ledger-i-in-loop-i c = search rules

pub bounds-ledger-i-in-loop-i : goal.bounds-ledger-i-in-loop-i
unfolding objects_most
bounds-ledger-i-in-loop-i c = search rules

pub offset_bounds-ledger-i-in-loop-i-2 : goal.offset_bounds-ledger-i-in-loop-i-2
unfolding objects_most
offset_bounds-ledger-i-in-loop-i-2 c = search rules

pub bounds-ledger-i-in-loop-i-2 : goal.bounds-ledger-i-in-loop-i-2
unfolding objects_most
bounds-ledger-i-in-loop-i-2 c = search rules

pub put_entry-n-requires : goal.put_entry-n-requires
put_entry-n-requires c =
    let l = c.loop-i in
    let a = c.args.ledger.now in
    let p = c.requires in
    let h : l.i < a.objects = c.loop-i-test.true in
    record {
      address_bound = p.counts_below l.i h;
      true_count_in_bounds = room-more a.addresses a.stored a.true_counts l.i a.objects l.n (length l.log) h l.invariant.1 (omega arith);
    }

pub loop-i-preserved : goal.loop-i-preserved
loop-i-preserved c =
    let l = c.loop-i in
    let a = c.args.ledger.now in
    let p = c.put_entry-n in
    let e = p.ensures in
    let w = words_more a.addresses a.stored a.true_counts l.i l.n p.result l.log p.new.log l.invariant.1 l.invariant.2 e.value e.log_after
    in
    (omega arith, w.0, w.1, news-more a.addresses a.stored a.true_counts l.i l.invariant.3 e.news_fit)

-- the entries have room
behind : (c : After-loop-i) → c.loop-i.n + c.loop-i.n ≤ length c.args.log.now
behind c =
    let l = c.loop-i in
    let a = c.args.ledger.now in
    omega (arith, wrong-within a.addresses a.stored a.true_counts l.i a.objects (omega arith))

pub overflow_add-used : goal.overflow_add-used
overflow_add-used c = omega (arith, behind c)

pub clear_from-requires : goal.clear_from-requires
clear_from-requires c = omega (arith, behind c.before)

pub returns : goal.returns
returns c =
    let l = c.loop-i in
    let a = c.args.ledger.now in
    let e : l.i ≡ a.objects = omega arith in
    let n = rw e at l.invariant.1 in
    let words = rw e at l.invariant.2 in
    let cleared = c.clear_from.ensures in
    let all = words-all a.addresses a.stored a.true_counts a.objects l.n _ l.log _ n words l.invariant.0 cleared in
    record {
      log_after = all;
      news_fit = rw e at l.invariant.3;
    }
