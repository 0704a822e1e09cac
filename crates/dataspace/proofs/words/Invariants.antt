-- The words read so far stand in front of zeros; each turn writes one more.
use mathlib.Core.Path.{◌≡◌}
use lib.ListN.{drop}
use Rattle.format.specs.Limits.{rank_most}
use Rattle.format.specs.Bytes.{to_words, padded}
use Rattle.dataspace.proofs.words.Given as goal

abbrev pub invariant-loop-i : goal.invariant-loop-i
invariant-loop-i l = (l.words ≡ padded rank_most (to_words l.i (drop l.from l.body)))
