-- The fuel of the definition is what is left of the segment's length; each turn is one block, which the map then has.
use mathlib.Core.Path.{◌≡◌}
use lib.ListN.{length}
use Rattle.free_list.specs.FreeBlocks.{chain}
use Rattle.free_list.specs.Spanned.{Spanned}
use Rattle.free_list.proofs.FreeLaws.{Following}
use Rattle.free_list.proofs.free_list.Given as goal

abbrev pub invariant-loop-count : goal.invariant-loop-count
invariant-loop-count l =
    Following l.segment l.map l.head l.at l.count
    × (length l.map ≡ length l.initial.map)
    × Spanned l.span.low l.span.high (chain l.count l.segment l.head)
