-- Writing the digits that are left gives the whole; each turn writes the lowest of them.
use mathlib.Core.Path.{◌≡◌}
use lib.ListN.{length}
use Rattle.format.specs.Bytes.{overwrite}
use Rattle.format.specs.Command.{hex}
use Rattle.output.proofs.put_hex.Given as goal

abbrev pub invariant-loop-i : goal.invariant-loop-i
invariant-loop-i l =
    (length l.out ≡ length l.initial.out) × (overwrite l.out l.at (hex l.i l.rest) ≡ overwrite l.initial.out l.at (hex l.digits l.x))
