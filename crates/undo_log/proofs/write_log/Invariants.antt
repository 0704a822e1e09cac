-- The entries of the first i places are written; each turn writes that of one place more. Then the rest is cleared.
use Prim.Native.Nat.{◌+◌}
use mathlib.Core.Path.{◌≡◌}
use lib.ListN.{length, take}
use Rattle.format.specs.Log.{log_words}
use Rattle.undo_log.proofs.LogLaws.{first_wrong}
use Rattle.undo_log.specs.Entries.{NewsFit}
use Rattle.undo_log.proofs.write_log.Given as goal

abbrev pub invariant-loop-i : goal.invariant-loop-i
invariant-loop-i l =
    (length l.log ≡ length l.initial.log) × (l.n ≡ length (first_wrong l.ledger.addresses l.ledger.stored l.ledger.true_counts l.i))
    × (take (l.n + l.n) l.log ≡ log_words (first_wrong l.ledger.addresses l.ledger.stored l.ledger.true_counts l.i))
    × NewsFit (first_wrong l.ledger.addresses l.ledger.stored l.ledger.true_counts l.i)
