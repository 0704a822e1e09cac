-- The numbers that are not left stand where they belong; each turn places one of the second run and what stands behind it of the first.
use Rattle.ordering.proofs.MergeLaws.{Merging}
use Rattle.ordering.proofs.merge.Given as goal

abbrev pub invariant-loop-k : goal.invariant-loop-k
invariant-loop-k l = Merging l.initial.words l.runs l.left l.k l.words
