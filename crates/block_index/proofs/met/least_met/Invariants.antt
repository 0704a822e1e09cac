-- Of the blocks looked at the least number is known; those that are left begin at the end or behind it, or are looked at next.
use Rattle.block_index.proofs.MetLaws.{Lowest}
use Rattle.block_index.proofs.met.least_met.Given as goal

abbrev pub invariant-loop-k : goal.invariant-loop-k
invariant-loop-k l = Lowest l.blocks l.run l.end l.place l.least l.k l.low
