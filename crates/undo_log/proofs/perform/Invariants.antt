-- The first i entries are performed; each turn performs one more.
use Rattle.std.proofs.Common.{◌≡◌, length}
use Rattle.format.specs.Log.{changes, written}
use Rattle.undo_log.proofs.perform.Given as goal

abbrev pub invariant-loop-i : goal.invariant-loop-i
invariant-loop-i l = (length l.image ≡ length l.initial.image) × (l.image ≡ written l.initial.image (changes l.i l.log))
