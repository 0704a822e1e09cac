-- The list stays indexed, and each search compares few blocks.
use mathlib.Core.Path.{◌≡◌}
use lib.ListN.{length}
use Rattle.walk.specs.Lent.{Lent, places_of}
use Rattle.block_orders.proofs.Counted.{Few}
use Rattle.block_orders.proofs.compared.compare.Given as goal

abbrev pub invariant-loop-at : goal.invariant-loop-at
invariant-loop-at l =
    record {
      lent : Lent l.blocks.words.now l.blocks.count l.bounds.room;
      room_is : l.bounds.room ≡ places_of (length l.fn.work);
      few : Few l.bounds.room l.most;
    }
