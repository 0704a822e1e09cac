-- The three ways out: the audit refused, the log is too short, or the first entries of a whole log are performed.
use native.Mathlib.Omega.{arith}
use Prim.Native.Nat.{ℕ, ◌+◌, ◌*◌, ◌≤◌}
use mathlib.Core.List.{List}
use mathlib.Core.Path.{◌≡◌, sym}
use lib.ListN.{length}
use lib.Seq.{length-take-le}
use Rattle.std.specs.Prelude.{Ok}
use Rattle.std.proofs.lemmas.Result.{err_from_is_err_and}
use Rattle.format.specs.Blocks.{room_of}
use Rattle.walk.specs.Lent.{places_of, handed}
use Rattle.walk.proofs.BlockList.{places-most, room-fours, all-cleared}
use Rattle.audit.specs.Audit.{AuditIs, LedgerPlaced}
use Rattle.audit.specs.declared.Reply.{Reply}
use Rattle.undo_log.proofs.WrittenLaws.{fields-inside, places-below, fields-taken, changes-taken}
use Rattle.mend.proofs.ReplyLaws.{audit-refused, log-short, mended-is}
use Rattle.mend.proofs.mend_in.Goals as goal

-- what is known of the ledger, by an audit with one list that has the working list's room
ledger : (im ws ws' : List ℕ) (r : Reply) →
    ((lent : ℕ) → room_of lent ≡ places_of (length ws) → AuditIs im lent (handed lent r.block_count ws') (Ok r)) → LedgerPlaced im r.ledger
ledger im ws ws' r h = (h (4 * places_of (length ws)) (room-fours (places_of (length ws)) (places-most (length ws)))).placed

pub returns-in_err-block_count : goal.returns-in_err-block_count
returns-in_err-block_count c =
    let p = err_from_is_err_and c.from_residual.result c.from_residual.ensures.1 in
    rw (p.1, p.2)
    (record {
      block_count_bound = tt;
      by_index = λ lent fit.
          audit-refused c.args.image.now lent (length c.args.log.now) c.args.limit _ c.audit_in.new.list (c.in_err-block_count.ensures.by_index lent fit) _
          (all-cleared c.args.log.now _ c.clear_from.ensures);
    })

pub wrong-entries-requires : goal.wrong-entries-requires
wrong-entries-requires c =
    let r : Reply = record { block_count = c.in_ok-block_count.block_count; ledger = c.audit_in.new.ledger } in
    (ledger c.args.image.now c.args.list.now _ r c.in_ok-block_count.ensures.by_index).fits

pub returns-then-log-entries : goal.returns-then-log-entries
returns-then-log-entries c =
    let a = c.args in
    let r : Reply = record { block_count = c.in_ok-block_count.block_count; ledger = c.audit_in.new.ledger } in
    record {
      block_count_bound = tt;
      by_index = λ lent fit.
          log-short a.image.now lent (length a.log.now) a.limit _ r (c.in_ok-block_count.ensures.by_index lent fit) _ c.wrong-entries.ensures
          (omega (arith, c.if-log-entries.true, c.clear_from.auto.words)) c.audit_in.new.list _ (all-cleared a.log.now _ c.clear_from.ensures);
    }

pub write_log-requires : goal.write_log-requires
write_log-requires c =
    let r : Reply = record { block_count = c.in_ok-block_count.block_count; ledger = c.audit_in.new.ledger } in
    let l = ledger c.args.image.now c.args.list.now _ r c.in_ok-block_count.ensures.by_index in
    record {
      objects_le_objects_most = l.fits;
      counts_below = λ k h. omega (arith, l.readable.inside k h);
      ledger_in_bounds = omega (arith, c.wrong-entries.ensures.wrong, c.if-log-entries.false);
    }

pub slice_bounds-perform-end : goal.slice_bounds-perform-end
slice_bounds-perform-end c = omega (arith, c.least-writes.ensures, c.if-log-entries.false, c.write_log.auto.log)

pub slice_bounds-perform-end-2 : goal.slice_bounds-perform-end-2
slice_bounds-perform-end-2 c =
    let w = c.least-writes.result in
    let log = c.write_log.new.log in
    let fit : w + w ≤ length log = omega (arith, c.least-writes.ensures, c.if-log-entries.false, c.write_log.auto.log) in
    sym (length-take-le (w + w) log fit)

pub perform-requires : goal.perform-requires
perform-requires c =
    let end = length c.args.image.now in
    let r : Reply = record { block_count = c.in_ok-block_count.block_count; ledger = c.audit_in.new.ledger } in
    let l = r.ledger in
    let log = c.write_log.new.log in
    let w = c.least-writes.result in
    let p = ledger c.args.image.now c.args.list.now _ r c.in_ok-block_count.ensures.by_index in
    let below = places-below end l.objects l.addresses l.stored l.true_counts p.readable.inside in
    let fit : w + w ≤ length log = omega (arith, c.least-writes.ensures, c.if-log-entries.false, c.write_log.auto.log) in
    let fields = fields-inside end w _ _ log c.write_log.ensures.log_after (omega (arith, c.least-writes.ensures, c.wrong-entries.ensures.wrong)) below in
    fields-taken w log fit end fields

pub returns : goal.returns
returns c =
    let a = c.args in
    let r : Reply = record { block_count = c.in_ok-block_count.block_count; ledger = c.audit_in.new.ledger } in
    let log = c.write_log.new.log in
    let w = c.least-writes.result in
    let fit : w + w ≤ length log = omega (arith, c.least-writes.ensures, c.if-log-entries.false, c.write_log.auto.log) in
    let performed = rw (changes-taken w log fit) at c.perform.ensures in
    record {
      block_count_bound = c.in_ok-block_count.ensures.block_count_bound;
      by_index = λ lent given.
          mended-is a.image.now lent (length a.log.now) a.limit _ r (c.in_ok-block_count.ensures.by_index lent given) _ c.wrong-entries.ensures
          log c.perform.new.image w (omega (arith, c.if-log-entries.false, c.clear_from.auto.words)) c.least-writes.ensures
          (rw c.clear_from.auto.words at c.write_log.ensures.log_after) c.write_log.ensures.news_fit performed;
    }
