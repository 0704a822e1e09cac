-- The lines of the first i objects are written; each turn writes one more.
use Prim.Native.Nat.{◌+◌, ◌*◌}
use mathlib.Core.Path.{◌≡◌}
use lib.ListN.{length}
use Rattle.format.specs.Bytes.{overwrite}
use Rattle.format.specs.Command.{object_lines}
use Rattle.ledger.specs.Report.{counted_places}
use Rattle.output.proofs.put_objects.Given as goal

abbrev pub invariant-loop-i : goal.invariant-loop-i
invariant-loop-i l =
    (l.place ≡ l.at + 33 * l.i) × (length l.out ≡ length l.initial.out)
    × (l.out ≡ overwrite l.initial.out l.at (object_lines (counted_places l.i l.ledger.addresses l.ledger.stored l.ledger.true_counts)))
