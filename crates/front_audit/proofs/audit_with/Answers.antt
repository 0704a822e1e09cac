-- The laws of Audited.antt, at the two ends of the code.
use Prim.Native.Nat.{◌*◌}
use mathlib.Core.Path.{refl, ap, sym, ◌∙◌}
use lib.ListN.{length}
use Rattle.format.specs.Limits.{objects_most}
use Rattle.format.specs.Front.{padded_bytes}
use lib.Seq.{length-take-le}
use Rattle.ledger.proofs.ReportLaws.{counted-taken}
use Rattle.front.proofs.Working.{working, worked}
use Rattle.front_audit.proofs.Audited.{done-reply, refused-reply}
use native.Mathlib.Omega.{arith}
use Rattle.front_audit.proofs.audit_with.Goals as goal

pub slice_bounds-audit_into-end : goal.slice_bounds-audit_into-end
slice_bounds-audit_into-end c = (working c.args.room _ c.args.list.now c.work_words-n.ensures c.requires.room_in_bounds).there

pub slice_bounds-audit_into-end-2 : goal.slice_bounds-audit_into-end-2
slice_bounds-audit_into-end-2 c = (working c.args.room _ c.args.list.now c.work_words-n.ensures c.requires.room_in_bounds).long

pub audit_into-requires : goal.audit_into-requires
unfolding objects_most
audit_into-requires c = record { addresses_empty = c.requires.empty_table; stored_empty = refl; counts_empty = refl }

pub returns-in-Err : goal.returns-in-Err
returns-in-Err c =
    let a = c.args in
    let lends = working a.room _ a.list.now c.work_words-n.ensures c.requires.room_in_bounds in
    rw c.refuse.ensures.value
    (refused-reply a.image.now (length a.blocks.now) (length a.reply.now) (4 * a.room) c.requires.room_in_bounds_2 c.audit_into.new.list _ _ _
    c.requires.objects_most_in_bounds c.in-Err.refusal (c.in-Err.ensures.by_index (4 * a.room) lends.fit) _ _ c.refuse.ensures.blocks_after
    c.refuse.ensures.reply_after)

pub overflow_mul-used : goal.overflow_mul-used
overflow_mul-used c =
    let a = c.args in
    let came = worked a.room _ a.list.now c.audit_into.new.list c.in-Ok.r.block_count c.work_words-n.ensures c.requires.room_in_bounds c.audit_into.auto.list
    c.in-Ok.ensures.block_count_bound in
    record { fits = omega (arith, came.counted, c.requires.room_in_bounds) }

pub slice_bounds-spill-end : goal.slice_bounds-spill-end
slice_bounds-spill-end c =
    let a = c.args in
    let came = worked a.room _ a.list.now c.audit_into.new.list c.in-Ok.r.block_count c.work_words-n.ensures c.requires.room_in_bounds c.audit_into.auto.list
    c.in-Ok.ensures.block_count_bound in
    came.fits

pub slice_bounds-spill-end-in-Ok : goal.slice_bounds-spill-end-in-Ok
slice_bounds-spill-end-in-Ok c =
    let a = c.args in
    let came = worked a.room _ a.list.now c.audit_into.new.list c.in-Ok.r.block_count c.work_words-n.ensures c.requires.room_in_bounds c.audit_into.auto.list
    c.in-Ok.ensures.block_count_bound in
    came.long

pub spill-requires : goal.spill-requires
spill-requires c =
    let a = c.args in
    let came = worked a.room _ a.list.now c.audit_into.new.list c.in-Ok.r.block_count c.work_words-n.ensures c.requires.room_in_bounds c.audit_into.auto.list
    c.in-Ok.ensures.block_count_bound in
    omega (arith, came.long, came.counted, c.requires.room_in_bounds_2)

pub slice_bounds-found-end : goal.slice_bounds-found-end
slice_bounds-found-end c =
    let lends = working c.args.room _ c.args.list.now c.work_words-n.ensures c.requires.room_in_bounds in
    (c.in-Ok.ensures.by_index (4 * c.args.room) lends.fit).placed.readable.listed

pub slice_bounds-found-end-in-Ok : goal.slice_bounds-found-end-in-Ok
slice_bounds-found-end-in-Ok c =
    let lends = working c.args.room _ c.args.list.now c.work_words-n.ensures c.requires.room_in_bounds in
    let placed = (c.in-Ok.ensures.by_index (4 * c.args.room) lends.fit).placed in
    sym (length-take-le c.in-Ok.r.objects c.audit_into.new.addresses placed.readable.listed)

pub write_reply-requires : goal.write_reply-requires
unfolding objects_most
write_reply-requires c =
    let lends = working c.args.room _ c.args.list.now c.work_words-n.ensures c.requires.room_in_bounds in
    let placed = (c.in-Ok.ensures.by_index (4 * c.args.room) lends.fit).placed in
    let taken = length-take-le c.in-Ok.r.objects c.audit_into.new.addresses placed.readable.listed in
    record {
      room = omega (arith, c.requires.objects_most_in_bounds, placed.fits, taken);
      addresses_long = omega arith;
      stored_long = omega (arith, placed.fits, c.audit_into.auto.stored, taken);
      counts_long = omega (arith, placed.fits, c.audit_into.auto.true_counts, taken);
    }

pub returns-in-Ok : goal.returns-in-Ok
returns-in-Ok c =
    let a = c.args in
    let came = worked a.room _ a.list.now c.audit_into.new.list c.in-Ok.r.block_count c.work_words-n.ensures c.requires.room_in_bounds c.audit_into.auto.list
    c.in-Ok.ensures.block_count_bound in
    let lends = working a.room _ a.list.now c.work_words-n.ensures c.requires.room_in_bounds in
    let h = c.in-Ok.ensures.by_index (4 * a.room) lends.fit in
    let l = h.placed.readable.listed in
    let taken = length-take-le c.in-Ok.r.objects c.audit_into.new.addresses l in
    let found = counted-taken c.audit_into.new.addresses c.in-Ok.r.objects l c.audit_into.new.stored c.audit_into.new.true_counts in
    done-reply a.image.now (length a.blocks.now) (length a.reply.now) (4 * a.room) c.requires.room_in_bounds_2 _ _ _ _ c.in-Ok.r h _ _
    (c.spill.ensures ∙ ap (padded_bytes (length a.blocks.now)) came.words) (rw (found, taken) at c.write_reply.ensures)
