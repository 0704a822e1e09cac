-- By the list where the map has no cells, else by the map.
use native.Mathlib.Omega.{arith}
use Rattle.free_list.proofs.search.meets_free.Goals as goal

pub returns : goal.returns
returns c =
    c.meets.ensures c.args.free.segment.now _ (c.requires.held.mapped (omega arith)) c.requires.size_in_bounds
