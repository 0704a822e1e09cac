-- The words from i on have moved up.
use Rattle.std.proofs.Common.{◌≤◌}
use Rattle.ordering.specs.Merge.{Raised}
use Rattle.ordering.proofs.raise.Given as goal

abbrev pub invariant-loop-i : goal.invariant-loop-i
invariant-loop-i l = (l.first ≤ l.i) × (l.i ≤ l.last) × Raised l.initial.words l.i l.last l.by l.words
