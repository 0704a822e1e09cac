-- What the whole search finds is what is found from the ith block on, which stands at `at`; each turn settles one block.
use Prim.Native.Nat.{◌-◌}
use mathlib.Core.Path.{◌≡◌}
use Rattle.format.specs.Blocks.{overlaps_any}
use Rattle.free_list.specs.FreeBlocks.{chain, Chained}
use Rattle.free_list.proofs.search.overlaps_free.Given as goal

abbrev pub invariant-loop-i : goal.invariant-loop-i
invariant-loop-i l =
    Chained (l.free.count - l._i) l.segment l.at
    × (overlaps_any (chain l.free.count l.segment l.free.head) l.off l.size ≡ overlaps_any (chain (l.free.count - l._i) l.segment l.at) l.off l.size)
