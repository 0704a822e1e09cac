-- The working list has the caller's room, and the caller's list is cleared.
use mathlib.Core.Path.{sym}
use lib.ListN.{length}
use Rattle.format.specs.Limits.{blocks_most}
use Rattle.walk.proofs.BlockList.{room_most, all-cleared}
use Rattle.walk.proofs.Handed.{working}
use native.Mathlib.Omega.{arith}
use Rattle.lookup.proofs.lookup.lookup.Goals as goal

pub work_words-n-requires : goal.work_words-n-requires
unfolding blocks_most
work_words-n-requires c = omega (arith, c.room.ensures, room_most (length c.args.list.now))

pub slice_bounds-work-end : goal.slice_bounds-work-end
unfolding blocks_most
slice_bounds-work-end c = (working (length c.args.list.now) _ _ 0 c.room.ensures c.work_words-n.ensures).there

pub slice_bounds-lookup_in-end : goal.slice_bounds-lookup_in-end
unfolding blocks_most
slice_bounds-lookup_in-end c = sym (working (length c.args.list.now) _ _ 0 c.room.ensures c.work_words-n.ensures).long

pub returns : goal.returns
unfolding blocks_most
returns c =
    let n = length c.args.list.now in
    let w = working n _ _ 0 c.room.ensures c.work_words-n.ensures in
    let cleared = all-cleared c.args.list.now _ c.clear_from.ensures in
    let found = c.lookup_in-found.ensures n w.fit in
    rw cleared (grind arith)
