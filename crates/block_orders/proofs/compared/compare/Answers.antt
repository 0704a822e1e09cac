-- The list stays indexed, and each search compares few blocks.
use Prim.Native.Nat.{◌+◌}
use mathlib.Core.Path.{◌≡◌}
use Rattle.std.specs.Prelude.{Ok}
use Rattle.walk.proofs.BlockList.{lent_none}
use Rattle.block_orders.proofs.Counted.{entered-lent, few-less}
use native.Mathlib.Omega.{arith}
use Rattle.block_orders.proofs.compared.compare.Goals as goal

pub loop-at-init : goal.loop-at-init
loop-at-init c = record { lent = rw c.places.ensures (lent_none c.args.work.now); room_is = c.places.ensures; few = λ m h. omega arith }

pub loop-at-preserved : goal.loop-at-preserved
loop-at-preserved c =
    let t = c.loop-at in
    let q = rw (c.list.ensures.words, c.list.ensures.count) at c.find-found.ensures in
    let u : c.enter.result ≡ Ok tt = grind arith in
    let l = entered-lent _ _ _ _ _ _ _ c.enter.new.self.words.now c.enter.new.self.count t.invariant.lent c.enter.ensures.entered
    (rw u at c.enter.ensures.value) in
    record {
      lent = l.0;
      room_is = t.invariant.room_is;
      few = λ m h. c.larger-most.ensures.2 (m + 10) (t.invariant.few m h) (few-less _ _ _ t.invariant.lent.counted q.tests m h);
    }
