-- The laws of Mended.antt, at the two ends of the code.
use Prim.Native.Nat.{◌*◌}
use mathlib.Core.Path.{sym, ap, ◌∙◌}
use lib.ListN.{length}
use lib.Seq.{length-take-le}
use Rattle.format.specs.Front.{padded_bytes}
use Rattle.format.specs.Limits.{objects_most}
use Rattle.front.proofs.Part.{came-back}
use Rattle.front.proofs.Working.{working, worked}
use Rattle.front_mend.proofs.Mended.{log-most, log-words, within, taken, done-reply, refused-reply}
use native.Mathlib.Omega.{arith}
use Rattle.front_mend.proofs.mend_with.Goals as goal

pub slice_bounds-mend_in-end : goal.slice_bounds-mend_in-end
slice_bounds-mend_in-end c =
    let a = c.args in
    let lends = working a.room _ a.list.now c.work_words-n.ensures c.requires.room_in_bounds in
    lends.there

pub slice_bounds-mend_in-end-2 : goal.slice_bounds-mend_in-end-2
slice_bounds-mend_in-end-2 c =
    let a = c.args in
    let lends = working a.room _ a.list.now c.work_words-n.ensures c.requires.room_in_bounds in
    lends.long

pub slice_bounds-entries-end : goal.slice_bounds-entries-end
unfolding objects_most
slice_bounds-entries-end c = omega (arith, c.log_room-m.ensures)

pub slice_bounds-mend_in-end-3 : goal.slice_bounds-mend_in-end-3
unfolding objects_most
slice_bounds-mend_in-end-3 c = sym (length-take-le c.log_room-m.result _ (omega (arith, c.log_room-m.ensures)))

pub returns-in-Err : goal.returns-in-Err
unfolding objects_most
returns-in-Err c =
    let a = c.args in
    let lends = working a.room _ a.list.now c.work_words-n.ensures c.requires.room_in_bounds in
    let is = c.in-Err.ensures.by_index (4 * a.room) lends.fit in
    let mended = taken a.image.now (length a.blocks.now) (length a.log.now) (length a.reply.now) a.limit _ _ _
    c.requires.room_in_bounds_2 (log-words _ _ _ c.log_room-m.ensures log-most) is.reply is.most in
    let t = c.refuse.ensures in
    rw t.value
    (refused-reply a.image.now (length a.blocks.now) (length a.log.now) (length a.reply.now) a.limit (4 * a.room) _ _ _ c.requires.in_bounds
    c.in-Err.refusal mended _ _ _
    t.blocks_after t.log_after t.reply_after)

pub overflow_mul-used : goal.overflow_mul-used
overflow_mul-used c =
    let a = c.args in
    let came = worked a.room _ a.list.now c.mend_in.new.list c.in-Ok.r.block_count c.work_words-n.ensures c.requires.room_in_bounds c.mend_in.auto.list
    c.in-Ok.ensures.block_count_bound in
    record { fits = omega (arith, came.counted, c.requires.room_in_bounds) }

pub overflow_mul-logged : goal.overflow_mul-logged
unfolding objects_most
overflow_mul-logged c =
    let a = c.args in
    let lends = working a.room _ a.list.now c.work_words-n.ensures c.requires.room_in_bounds in
    let is = c.in-Ok.ensures.by_index (4 * a.room) lends.fit in
    let mended = taken a.image.now (length a.blocks.now) (length a.log.now) (length a.reply.now) a.limit _ _ _
    c.requires.room_in_bounds_2 (log-words _ _ _ c.log_room-m.ensures log-most) is.reply is.most in
    record { fits = omega (arith, mended.entries_fit, log-most) }

pub slice_bounds-spill-end : goal.slice_bounds-spill-end
slice_bounds-spill-end c =
    let a = c.args in
    let came = worked a.room _ a.list.now c.mend_in.new.list c.in-Ok.r.block_count c.work_words-n.ensures c.requires.room_in_bounds c.mend_in.auto.list
    c.in-Ok.ensures.block_count_bound in
    came.fits

pub slice_bounds-spill-end-in-Ok : goal.slice_bounds-spill-end-in-Ok
slice_bounds-spill-end-in-Ok c =
    let a = c.args in
    let came = worked a.room _ a.list.now c.mend_in.new.list c.in-Ok.r.block_count c.work_words-n.ensures c.requires.room_in_bounds c.mend_in.auto.list
    c.in-Ok.ensures.block_count_bound in
    came.long

pub spill-requires : goal.spill-requires
spill-requires c =
    let a = c.args in
    let came = worked a.room _ a.list.now c.mend_in.new.list c.in-Ok.r.block_count c.work_words-n.ensures c.requires.room_in_bounds c.mend_in.auto.list
    c.in-Ok.ensures.block_count_bound in
    omega (arith, came.long, came.counted, c.requires.room_in_bounds_2)

pub slice_bounds-entries-end-in-Ok : goal.slice_bounds-entries-end-in-Ok
unfolding objects_most
slice_bounds-entries-end-in-Ok c =
    let a = c.args in
    let lends = working a.room _ a.list.now c.work_words-n.ensures c.requires.room_in_bounds in
    let is = c.in-Ok.ensures.by_index (4 * a.room) lends.fit in
    let mended = taken a.image.now (length a.blocks.now) (length a.log.now) (length a.reply.now) a.limit _ _ _
    c.requires.room_in_bounds_2 (log-words _ _ _ c.log_room-m.ensures log-most) is.reply is.most in
    let fits = within _ _ _ _ c.mend_in.auto.log (log-words _ _ _ c.log_room-m.ensures log-most) mended.entries_fit in
    let logged = came-back c.mend_in.new.log _ c.log_room-m.result _ c.mend_in.auto.log fits in
    logged.fits

pub slice_bounds-spill-end-in-Ok-2 : goal.slice_bounds-spill-end-in-Ok-2
unfolding objects_most
slice_bounds-spill-end-in-Ok-2 c =
    let a = c.args in
    let lends = working a.room _ a.list.now c.work_words-n.ensures c.requires.room_in_bounds in
    let is = c.in-Ok.ensures.by_index (4 * a.room) lends.fit in
    let mended = taken a.image.now (length a.blocks.now) (length a.log.now) (length a.reply.now) a.limit _ _ _
    c.requires.room_in_bounds_2 (log-words _ _ _ c.log_room-m.ensures log-most) is.reply is.most in
    let fits = within _ _ _ _ c.mend_in.auto.log (log-words _ _ _ c.log_room-m.ensures log-most) mended.entries_fit in
    let logged = came-back c.mend_in.new.log _ c.log_room-m.result _ c.mend_in.auto.log fits in
    logged.long

pub spill-requires-in-Ok : goal.spill-requires-in-Ok
unfolding objects_most
spill-requires-in-Ok c =
    let a = c.args in
    let lends = working a.room _ a.list.now c.work_words-n.ensures c.requires.room_in_bounds in
    let is = c.in-Ok.ensures.by_index (4 * a.room) lends.fit in
    let mended = taken a.image.now (length a.blocks.now) (length a.log.now) (length a.reply.now) a.limit _ _ _
    c.requires.room_in_bounds_2 (log-words _ _ _ c.log_room-m.ensures log-most) is.reply is.most in
    let fits = within _ _ _ _ c.mend_in.auto.log (log-words _ _ _ c.log_room-m.ensures log-most) mended.entries_fit in
    let logged = came-back c.mend_in.new.log _ c.log_room-m.result _ c.mend_in.auto.log fits in
    omega (arith, logged.long, mended.entries_fit)

pub spill-requires-in-Ok-2 : goal.spill-requires-in-Ok-2
spill-requires-in-Ok-2 c = omega (arith, c.requires.in_bounds)

pub returns-in-Ok : goal.returns-in-Ok
unfolding objects_most
returns-in-Ok c =
    let a = c.args in
    let came = worked a.room _ a.list.now c.mend_in.new.list c.in-Ok.r.block_count c.work_words-n.ensures c.requires.room_in_bounds c.mend_in.auto.list
    c.in-Ok.ensures.block_count_bound in
    let lends = working a.room _ a.list.now c.work_words-n.ensures c.requires.room_in_bounds in
    let is = c.in-Ok.ensures.by_index (4 * a.room) lends.fit in
    let mended = taken a.image.now (length a.blocks.now) (length a.log.now) (length a.reply.now) a.limit _ _ _
    c.requires.room_in_bounds_2 (log-words _ _ _ c.log_room-m.ensures log-most) is.reply is.most in
    let fits = within _ _ _ _ c.mend_in.auto.log (log-words _ _ _ c.log_room-m.ensures log-most) mended.entries_fit in
    let logged = came-back c.mend_in.new.log _ c.log_room-m.result _ c.mend_in.auto.log fits in
    done-reply a.image.now (length a.blocks.now) (length a.log.now) (length a.reply.now) a.limit (4 * a.room) _ _ _ c.in-Ok.r mended _ _ _
    (c.spill.ensures ∙ ap (padded_bytes (length a.blocks.now)) came.words)
    (c.spill-in-Ok.ensures ∙ ap (padded_bytes (length a.log.now)) logged.words)
    c.spill-in-Ok-2.ensures
