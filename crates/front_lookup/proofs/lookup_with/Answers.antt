-- The laws of Located.antt, at the two ends of the code.
use Prim.Native.Nat.{◌*◌}
use lib.ListN.{length}
use Rattle.front.proofs.Working.{working}
use Rattle.front.proofs.Reply.{all-zero}
use Rattle.front_lookup.proofs.Located.{done-reply, refused-reply}
use Rattle.front_lookup.proofs.lookup_with.Goals as goal

pub slice_bounds-lookup_in-end : goal.slice_bounds-lookup_in-end
slice_bounds-lookup_in-end c = (working c.args.room _ c.args.list.now c.work_words-n.ensures c.requires.room_in_bounds).there

pub slice_bounds-lookup_in-end-2 : goal.slice_bounds-lookup_in-end-2
slice_bounds-lookup_in-end-2 c = (working c.args.room _ c.args.list.now c.work_words-n.ensures c.requires.room_in_bounds).long

pub returns-in-Err : goal.returns-in-Err
returns-in-Err c =
    let a = c.args in
    let lends = working c.args.room _ c.args.list.now c.work_words-n.ensures c.requires.room_in_bounds in
    rw c.refuse.ensures.value
    (refused-reply a.image.now a.path.now (length a.blocks.now) (length a.reply.now) (4 * a.room) c.requires.room_in_bounds_2
    c.requires.in_bounds c.in-Err.refusal
    (c.in-Err.ensures (4 * a.room) lends.fit) _ _ c.refuse.ensures.blocks_after c.refuse.ensures.reply_after)

pub returns-in-Ok : goal.returns-in-Ok
returns-in-Ok c =
    let a = c.args in
    let lends = working c.args.room _ c.args.list.now c.work_words-n.ensures c.requires.room_in_bounds in
    done-reply a.image.now a.path.now (length a.blocks.now) (length a.reply.now) (4 * a.room) c.requires.room_in_bounds_2 c.in-Ok.r
    (c.in-Ok.ensures (4 * a.room) lends.fit) _ _ (all-zero a.blocks.now _ c.clear_from.ensures) c.spill.ensures
