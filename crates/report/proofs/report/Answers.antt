-- Arrays of zeros are empty lists; the blocks are handed over, and the reply has its ledger.
use Prim.Native.Nat.{ℕ, ◌≤◌, ◌<◌}
use mathlib.Core.List.{List}
use mathlib.Core.Path.{◌≡◌, refl, sym, ◌∙◌}
use lib.ListN.{length, take}
use Rattle.format.specs.Bytes.{undefined_address}
use Rattle.format.specs.Limits.{objects_most, blocks_most}
use Rattle.format.specs.Blocks.{room_of}
use Rattle.walk.specs.Lent.{places_of, handed, work_words}
use Rattle.walk.proofs.BlockList.{room_most}
use Rattle.walk.proofs.Handed.{work, working, working-over}
use Rattle.ledger.specs.Index.{table_words}
use Rattle.audit.proofs.ReplyLaws.{empty-table}
use Rattle.report.specs.Report.{ReportedIs}
use Rattle.report.specs.declared.Reported.{Reported}
use Rattle.report.proofs.Replied.{filled-part}
use Rattle.report.proofs.Ledgers.{same-list, reply-is}
use native.Mathlib.Omega.{arith}
use Rattle.report.proofs.report.Goals as goal

-- what is reported of the blocks handed over
reported : (im : List ℕ) (lent room n : ℕ) (ys zs addresses stored counts : List ℕ) (r : Reported) → room ≡ room_of lent → n ≡ work_words room →
    zs ≡ handed lent r.block_count ys →
    ((m : ℕ) → room_of m ≡ places_of (length (take n (work undefined_address))) → ReportedIs im m (handed m r.block_count ys) addresses stored counts r) →
    ReportedIs im lent zs addresses stored counts r
reported im lent room n ys zs addresses stored counts r is words same h =
    same-list im lent _ zs addresses stored counts r same (h lent (working lent room n undefined_address is words).fit)

pub work_words-n-requires : goal.work_words-n-requires
unfolding blocks_most undefined_address
work_words-n-requires c = omega (arith, c.room.ensures, room_most (length c.args.list.now))

pub slice_bounds-work-end : goal.slice_bounds-work-end
unfolding blocks_most undefined_address
slice_bounds-work-end c = (working (length c.args.list.now) _ _ undefined_address c.room.ensures c.work_words-n.ensures).there

pub slice_bounds-report_filled-end : goal.slice_bounds-report_filled-end
unfolding blocks_most undefined_address
slice_bounds-report_filled-end c = sym (working (length c.args.list.now) _ _ undefined_address c.room.ensures c.work_words-n.ensures).long

pub report_filled-r-requires : goal.report_filled-r-requires
unfolding objects_most blocks_most undefined_address
report_filled-r-requires c =
    let w = working (length c.args.list.now) _ _ undefined_address c.room.ensures c.work_words-n.ensures in
    record {
      lists = record {
        addresses_empty = empty-table table_words (omega arith);
        stored_empty = c.empty.ensures.stored_zero;
        counts_empty = c.empty.ensures.counts_zero;
      };
      filled = filled-part c.work_words-n.result (work_words blocks_most) undefined_address w.there;
    }

pub slice_bounds-hand_over-end : goal.slice_bounds-hand_over-end
unfolding blocks_most undefined_address
slice_bounds-hand_over-end c =
    sym
    (working-over (length c.args.list.now) _ _ undefined_address _ _ c.room.ensures c.work_words-n.ensures c.report_filled-r.auto.list
    c.report_filled-r.ensures.block_count_bound).whole

pub hand_over-requires : goal.hand_over-requires
unfolding blocks_most undefined_address
hand_over-requires c =
    let r = c.report_filled-r in
    let o = working-over (length c.args.list.now) _ _ undefined_address _ _ c.room.ensures c.work_words-n.ensures r.auto.list r.ensures.block_count_bound in
    record { count_in_bounds = o.fits; count_in_bounds_2 = o.there }

-- the objects have places
placed : (im : List ℕ) (lent room n : ℕ) (ys addresses stored counts : List ℕ) (r : Reported) → room ≡ room_of lent → n ≡ work_words room →
    ((m : ℕ) → room_of m ≡ places_of (length (take n (work undefined_address))) → ReportedIs im m (handed m r.block_count ys) addresses stored counts r) →
    r.objects ≤ objects_most
placed im lent room n ys addresses stored counts r is words h = (h lent (working lent room n undefined_address is words).fit).fits

pub complete-requires : goal.complete-requires
unfolding objects_most blocks_most undefined_address
complete-requires c =
    let r = c.report_filled-r in
    let fits = placed c.args.image.now (length c.args.list.now) _ _ _ _ _ _ _ c.room.ensures c.work_words-n.ensures r.ensures.by_index in
    record {
      objects_in_bounds = omega (arith, fits, r.auto.addresses);
      objects_le_objects_most = fits;
      none = c.empty.ensures.none;
      zeros = c.empty.ensures.addresses_zero;
    }

pub returns : goal.returns
unfolding objects_most blocks_most undefined_address
returns c =
    let n = length c.args.list.now in
    let r = c.report_filled-r in
    let o = working-over n _ _ undefined_address _ _ c.room.ensures c.work_words-n.ensures r.auto.list r.ensures.block_count_bound in
    let h = reported _ n _ _ _ _ _ _ _ r.result c.room.ensures c.work_words-n.ensures (c.hand_over.ensures ∙ o.same) r.ensures.by_index in
    reply-is c.args.image.now _ _ _ _ _ r.result h c.complete.new.reply c.complete.ensures.fields c.complete.ensures.ledger
