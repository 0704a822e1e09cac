-- What the whole test finds is what is found from the ith entry on; each turn reads and settles one.
use Rattle.std.proofs.Common.{◌≡◌, ◌/◌, length, drop}
use Rattle.format.specs.Log.{changes}
use Rattle.format.specs.Undo.{all_fit}
use Rattle.undo.specs.Reply.{words_of}
use Rattle.undo.proofs.all_fit.Given as goal

abbrev pub invariant-loop-i : goal.invariant-loop-i
invariant-loop-i l =
    all_fit l.image (changes (length l.log / 16) (words_of l.log)) ≡ all_fit l.image (drop l.i (changes (length l.log / 16) (words_of l.log)))
