-- The wrong counts among the first i places are counted; each turn takes one place more.
use Prim.Native.Nat.{◌≤◌}
use mathlib.Core.Path.{◌≡◌}
use lib.ListN.{length}
use Rattle.undo_log.proofs.LogLaws.{first_wrong}
use Rattle.undo_log.proofs.wrong.Given as goal

abbrev pub invariant-loop-i : goal.invariant-loop-i
invariant-loop-i l = (l.n ≤ l.i) × (l.n ≡ length (first_wrong l.ledger.addresses l.ledger.stored l.ledger.true_counts l.i))
