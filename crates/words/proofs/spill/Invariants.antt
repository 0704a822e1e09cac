-- The bytes begin with the first i words; each turn writes one more.
use Rattle.std.proofs.Common.{◌≡◌, length, take}
use Rattle.words.proofs.Words.{Begins}
use Rattle.words.proofs.spill.Given as goal

abbrev pub invariant-loop-i : goal.invariant-loop-i
invariant-loop-i l = (length l.out ≡ length l.initial.out) × Begins l.out (take l.i l.words)
