-- The words from i on have moved.
use Rattle.std.proofs.Common.{◌≤◌}
use Rattle.ordering.proofs.OrderLaws.{Moved}
use Rattle.ordering.proofs.insert.Given as goal

abbrev pub invariant-loop-i : goal.invariant-loop-i
invariant-loop-i l = (l.place ≤ l.i) × (l.i ≤ l.last) × Moved l.initial.words l.last l.i l.words
