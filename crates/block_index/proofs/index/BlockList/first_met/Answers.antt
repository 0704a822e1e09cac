-- The first run gives the least of its blocks, and the second the least of its own and of that.
use mathlib.Core.Path.{refl}
use Rattle.block_index.proofs.SortedRuns.{first-sorted, second-sorted}
use Rattle.block_index.proofs.MetLaws.{least-of-both}
use Rattle.block_index.proofs.index.BlockList.first_met.Goals as goal

pub least_met-low-requires : goal.least_met-low-requires
least_met-low-requires c = rw c.first_run-run.ensures (first-sorted _ _ c.requires.indexed)

pub least_met-requires : goal.least_met-requires
least_met-requires c = rw c.second_run-last.ensures (second-sorted _ _ c.requires.indexed)

pub returns : goal.returns
returns c =
    let s = c in
    let a = s.args in
    let f = c.first_run-run.ensures in
    let g = c.second_run-last.ensures in
    least-of-both _ _ a.new.at a.new.size _ _ (s.requires.found_in.meets s.requires.met_value)
    (rw f at (c.least_met-low.ensures a.new.at a.new.size refl (rw f s.requires.found_in.first)))
    (rw g at (c.least_met.ensures a.new.at a.new.size refl (rw g s.requires.found_in.second)))
