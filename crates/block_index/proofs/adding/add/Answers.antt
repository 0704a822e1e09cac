-- The bases of the runs are known by the number of places: its equation puts them into the laws' form.
use Prim.Native.Nat.{◌+◌, ◌*◌}
use native.Mathlib.Omega.{arith}
use Rattle.ordering.proofs.PartLaws.{inserted-part}
use Rattle.block_index.proofs.AddLaws.{full-held, added-last, added-merged}
use Rattle.block_index.proofs.adding.add.Goals as goal

pub merge-requires : goal.merge-requires
merge-requires c =
    let a = c.args in
    let d = c.requires in
    let e = c.places_for-room.ensures in
    let base = 5 * c.places_for-room.result in
    let i = inserted-part a.blocks.now _ base _ _ _ _ (omega arith) (omega (arith, e, d.room)) d.second_place.most c.insert.ensures in
    let j = inserted-part _ _ (base + 64) _ _ _ _ (omega arith) (omega (arith, e, d.room, i.long)) d.second_place.most c.insert-2.ensures in
    rw e (full-held _ _ _ _ d _ _ (rw e at i) (rw e at j) c.if-recent-eq-RUN_MOST.true)

pub returns-then-recent-eq-RUN_MOST : goal.returns-then-recent-eq-RUN_MOST
returns-then-recent-eq-RUN_MOST c =
    let a = c.args in
    let d = c.requires in
    let e = c.places_for-room.ensures in
    let base = 5 * c.places_for-room.result in
    let i = inserted-part a.blocks.now _ base _ _ _ _ (omega arith) (omega (arith, e, d.room)) d.second_place.most c.insert.ensures in
    let j = inserted-part _ _ (base + 64) _ _ _ _ (omega arith) (omega (arith, e, d.room, i.long)) d.second_place.most c.insert-2.ensures in
    added-merged _ _ _ _ d _ _ (rw e at i) (rw e at j) c.if-recent-eq-RUN_MOST.true _ (rw e at c.merge.ensures)

pub returns-else-recent-eq-RUN_MOST : goal.returns-else-recent-eq-RUN_MOST
returns-else-recent-eq-RUN_MOST c =
    let a = c.args in
    let d = c.requires in
    let e = c.places_for-room.ensures in
    let base = 5 * c.places_for-room.result in
    let i = inserted-part a.blocks.now _ base _ _ _ _ (omega arith) (omega (arith, e, d.room)) d.second_place.most c.insert.ensures in
    let j = inserted-part _ _ (base + 64) _ _ _ _ (omega arith) (omega (arith, e, d.room, i.long)) d.second_place.most c.insert-2.ensures in
    rw e (added-last _ _ _ _ d _ _ (rw e at i) (rw e at j) c.if-recent-eq-RUN_MOST.false)
