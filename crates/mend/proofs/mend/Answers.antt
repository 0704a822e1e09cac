-- The working list has the caller's room, and its blocks are handed over.
use mathlib.Core.Path.{sym}
use lib.ListN.{length}
use Rattle.format.specs.Limits.{blocks_most}
use Rattle.walk.proofs.BlockList.{room_most, all-cleared}
use Rattle.walk.proofs.Handed.{working, working-over, handed-none}
use native.Mathlib.Omega.{arith}
use Rattle.mend.proofs.mend.Goals as goal

pub work_words-n-requires : goal.work_words-n-requires
unfolding blocks_most
work_words-n-requires c = omega (arith, c.room.ensures, room_most (length c.args.list.now))

pub slice_bounds-work-end : goal.slice_bounds-work-end
unfolding blocks_most
slice_bounds-work-end c = (working (length c.args.list.now) _ _ 0 c.room.ensures c.work_words-n.ensures).there

pub slice_bounds-mend_in-end : goal.slice_bounds-mend_in-end
unfolding blocks_most
slice_bounds-mend_in-end c = sym (working (length c.args.list.now) _ _ 0 c.room.ensures c.work_words-n.ensures).long

pub slice_bounds-hand_over-end : goal.slice_bounds-hand_over-end
unfolding blocks_most
slice_bounds-hand_over-end c =
    let bound = c.in-Ok.ensures.block_count_bound in
    sym (working-over (length c.args.list.now) _ _ 0 _ _ c.room.ensures c.work_words-n.ensures c.mend_in.auto.list bound).whole

pub hand_over-requires : goal.hand_over-requires
unfolding blocks_most
hand_over-requires c =
    let bound = c.in-Ok.ensures.block_count_bound in
    let o = working-over (length c.args.list.now) _ _ 0 _ _ c.room.ensures c.work_words-n.ensures c.mend_in.auto.list bound in
    record { count_in_bounds = o.fits; count_in_bounds_2 = o.there }

pub returns-in-Ok : goal.returns-in-Ok
unfolding blocks_most
returns-in-Ok c =
    let n = length c.args.list.now in
    let w = working n _ _ 0 c.room.ensures c.work_words-n.ensures in
    let o = working-over n _ _ 0 _ _ c.room.ensures c.work_words-n.ensures c.mend_in.auto.list c.in-Ok.ensures.block_count_bound in
    rw (c.hand_over.ensures, o.same) (c.in-Ok.ensures.by_index n w.fit)

pub returns-in-Err : goal.returns-in-Err
unfolding blocks_most
returns-in-Err c =
    let n = length c.args.list.now in
    let w = working n _ _ 0 c.room.ensures c.work_words-n.ensures in
    let none = c.in-Err.ensures.by_index n w.fit in
    rw (all-cleared c.args.list.now _ c.clear_from.ensures) (rw handed-none at none)
