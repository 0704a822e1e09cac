-- The laws of Described.antt, at the two ends of the code.
use Prim.Native.Nat.{◌*◌}
use mathlib.Core.Path.{ap, ◌∙◌}
use lib.ListN.{length}
use Rattle.format.specs.Limits.{rank_most}
use Rattle.format.specs.Front.{padded_bytes}
use Rattle.front.proofs.Working.{working, worked}
use Rattle.front_describe.proofs.Described.{done-reply, refused-reply}
use native.Mathlib.Omega.{arith}
use Rattle.front_describe.proofs.describe_with.Goals as goal

pub slice_bounds-describe_in-end : goal.slice_bounds-describe_in-end
slice_bounds-describe_in-end c = (working c.args.room _ c.args.list.now c.work_words-n.ensures c.requires.room_in_bounds).there

pub slice_bounds-describe_in-end-2 : goal.slice_bounds-describe_in-end-2
slice_bounds-describe_in-end-2 c = (working c.args.room _ c.args.list.now c.work_words-n.ensures c.requires.room_in_bounds).long

pub returns-in-Err : goal.returns-in-Err
returns-in-Err c =
    let a = c.args in
    let lends = working a.room _ a.list.now c.work_words-n.ensures c.requires.room_in_bounds in
    rw c.refuse.ensures.value
    (refused-reply a.image.now a.path.now (length a.blocks.now) (length a.reply.now) (4 * a.room) c.requires.room_in_bounds_2 c.describe_in.new.list
    c.requires.rank_most_in_bounds c.in-Err.refusal (c.in-Err.ensures.by_index (4 * a.room) lends.fit) _ _ c.refuse.ensures.blocks_after
    c.refuse.ensures.reply_after)

pub overflow_mul-used : goal.overflow_mul-used
overflow_mul-used c =
    let a = c.args in
    let came = worked a.room _ a.list.now c.describe_in.new.list c.in-Ok.r.block_count c.work_words-n.ensures c.requires.room_in_bounds c.describe_in.auto.list
    c.in-Ok.ensures.block_count_bound in
    record { fits = omega (arith, came.counted, c.requires.room_in_bounds) }

pub slice_bounds-spill-end : goal.slice_bounds-spill-end
slice_bounds-spill-end c =
    let a = c.args in
    let came = worked a.room _ a.list.now c.describe_in.new.list c.in-Ok.r.block_count c.work_words-n.ensures c.requires.room_in_bounds c.describe_in.auto.list
    c.in-Ok.ensures.block_count_bound in
    came.fits

pub slice_bounds-spill-end-in-Ok : goal.slice_bounds-spill-end-in-Ok
slice_bounds-spill-end-in-Ok c =
    let a = c.args in
    let came = worked a.room _ a.list.now c.describe_in.new.list c.in-Ok.r.block_count c.work_words-n.ensures c.requires.room_in_bounds c.describe_in.auto.list
    c.in-Ok.ensures.block_count_bound in
    came.long

pub spill-requires : goal.spill-requires
spill-requires c =
    let a = c.args in
    let came = worked a.room _ a.list.now c.describe_in.new.list c.in-Ok.r.block_count c.work_words-n.ensures c.requires.room_in_bounds c.describe_in.auto.list
    c.in-Ok.ensures.block_count_bound in
    omega (arith, came.long, came.counted, c.requires.room_in_bounds_2)

pub write_description-requires : goal.write_description-requires
unfolding rank_most
write_description-requires c = omega (arith, c.requires.rank_most_in_bounds)

pub returns-in-Ok : goal.returns-in-Ok
returns-in-Ok c =
    let a = c.args in
    let came = worked a.room _ a.list.now c.describe_in.new.list c.in-Ok.r.block_count c.work_words-n.ensures c.requires.room_in_bounds c.describe_in.auto.list
    c.in-Ok.ensures.block_count_bound in
    let lends = working a.room _ a.list.now c.work_words-n.ensures c.requires.room_in_bounds in
    done-reply a.image.now a.path.now (length a.blocks.now) (length a.reply.now) (4 * a.room) c.requires.room_in_bounds_2 _ c.in-Ok.r
    (c.in-Ok.ensures.by_index (4 * a.room) lends.fit) _ _ (c.spill.ensures ∙ ap (padded_bytes (length a.blocks.now)) came.words)
    c.write_description.ensures
