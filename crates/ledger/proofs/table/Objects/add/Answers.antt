-- The address, the number in the order, and the guess, one after the other.
use Prim.Native.Nat.{◌+◌, ◌≤◌, ◌<◌}
use native.Mathlib.Omega.{arith}
use borrow.Rule.Slice.PartMut.{mid_len}
use lib.ListN.{length, length-set, set}
use Rattle.ordering.proofs.PartLaws.{inserted-part}
use Rattle.ledger.proofs.AddLaws.{added}
use Rattle.ledger.proofs.table.Objects.add.Goals as goal

pub insert-requires : goal.insert-requires
insert-requires c =
    let a = c.args in
    let d = c.requires in
    let from = c.the_limits-from.result.objects_most in
    let n = a.self.now.count in
    let ys = set a.self.now.addresses.now n a.address in
    let long : from + n + 1 ≤ length ys = simp length-set (omega (arith, c.the_limits-from.ensures.objects_most_equal, d.room, d.indexed.long)) in
    omega (arith, mid_len from (from + n + 1) ys long, d.placed.most)

pub returns-clause-added : goal.returns-clause-added
returns-clause-added c =
    let a = c.args in
    let d = c.requires in
    let limits = c.the_limits-from.ensures.objects_most_equal in
    let n = a.self.now.count in
    let ys = set a.self.now.addresses.now n a.address in
    let fits : c.the_limits-from.result.objects_most + n < length ys = simp length-set (omega (arith, limits, d.room, d.indexed.long)) in
    let i = inserted-part ys _ _ n _ _ _ (omega arith) fits d.placed.most c.insert.ensures in
    rw (c.remember.ensures, limits) (added _ _ _ _ d _ (rw limits at i))
