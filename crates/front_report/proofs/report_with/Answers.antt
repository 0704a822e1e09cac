-- The laws of Reported.antt, at the two ends of the code.
use Prim.Native.Nat.{◌*◌}
use mathlib.Core.Path.{refl, ap, ◌∙◌}
use lib.ListN.{length}
use Rattle.format.specs.Limits.{objects_most}
use Rattle.format.specs.Front.{padded_bytes}
use Rattle.front.proofs.Working.{working, worked}
use Rattle.front_report.proofs.Reported.{reply-written}
use native.Mathlib.Omega.{arith}
use Rattle.front_report.proofs.report_with.Goals as goal

pub slice_bounds-report_into-end : goal.slice_bounds-report_into-end
slice_bounds-report_into-end c = (working c.args.room _ c.args.list.now c.work_words-n.ensures c.requires.room_in_bounds).there

pub slice_bounds-report_into-end-2 : goal.slice_bounds-report_into-end-2
slice_bounds-report_into-end-2 c = (working c.args.room _ c.args.list.now c.work_words-n.ensures c.requires.room_in_bounds).long

pub report_into-r-requires : goal.report_into-r-requires
unfolding objects_most
report_into-r-requires c = record { addresses_empty = c.requires.empty_table; stored_empty = refl; counts_empty = refl }

pub overflow_mul-used : goal.overflow_mul-used
overflow_mul-used c =
    let r = c.report_into-r in
    let came = worked c.args.room _ c.args.list.now r.new.list r.result.block_count c.work_words-n.ensures c.requires.room_in_bounds r.auto.list
    r.ensures.block_count_bound in
    record { fits = omega (arith, came.counted, c.requires.room_in_bounds) }

pub slice_bounds-spill-end : goal.slice_bounds-spill-end
slice_bounds-spill-end c =
    let r = c.report_into-r in
    let came = worked c.args.room _ c.args.list.now r.new.list r.result.block_count c.work_words-n.ensures c.requires.room_in_bounds r.auto.list
    r.ensures.block_count_bound in
    came.fits

pub slice_bounds-spill-end-2 : goal.slice_bounds-spill-end-2
slice_bounds-spill-end-2 c =
    let r = c.report_into-r in
    let came = worked c.args.room _ c.args.list.now r.new.list r.result.block_count c.work_words-n.ensures c.requires.room_in_bounds r.auto.list
    r.ensures.block_count_bound in
    came.long

pub spill-requires : goal.spill-requires
spill-requires c =
    let r = c.report_into-r in
    let came = worked c.args.room _ c.args.list.now r.new.list r.result.block_count c.work_words-n.ensures c.requires.room_in_bounds r.auto.list
    r.ensures.block_count_bound in
    omega (arith, came.long, came.counted, c.requires.room_in_bounds_2)

pub returns : goal.returns
returns c =
    let a = c.args in
    let lends = working c.args.room _ c.args.list.now c.work_words-n.ensures c.requires.room_in_bounds in
    let r = c.report_into-r in
    let came = worked c.args.room _ c.args.list.now r.new.list r.result.block_count c.work_words-n.ensures c.requires.room_in_bounds r.auto.list
    r.ensures.block_count_bound in
    reply-written a.image.now (length a.blocks.now) (length a.reply.now) (4 * a.room) c.requires.room_in_bounds_2 _ _ _ _ _
    (r.ensures.by_index (4 * a.room) lends.fit) _ _ (c.spill.ensures ∙ ap (padded_bytes (length a.blocks.now)) came.words) c.write_reply.ensures
