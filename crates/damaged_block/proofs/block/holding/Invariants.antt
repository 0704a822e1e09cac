-- The search of Holding.antt, one block a turn.
use Prim.Native.Nat.{◌/◌}
use mathlib.Core.List.{List}
use mathlib.Core.Path.{◌≡◌}
use lib.ListN.{length}
use Rattle.format.specs.Blocks.{Block, no_object, block_words}
use Rattle.format.specs.Report.{holding}
use Rattle.damaged_block.proofs.Holding.{Behind}
use Rattle.damaged_block.proofs.block.holding.Given as goal

abbrev pub invariant-loop-i : goal.invariant-loop-i
invariant-loop-i l = (bs : List Block) → l.list ≡ block_words no_object bs →
    Behind (length l.list / 4) l.i l.list l.place (holding no_object bs l.place) l.i
