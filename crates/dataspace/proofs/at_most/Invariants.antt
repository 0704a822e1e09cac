-- What the whole comparison finds is what is found from the ith size on; each turn settles one.
use mathlib.Core.Path.{◌≡◌}
use lib.ListN.{drop}
use Rattle.format.specs.Bytes.{to_words}
use Rattle.format.specs.Dataspace.{all_at_most}
use Rattle.dataspace.proofs.DataspaceLaws.{words_from}
use Rattle.dataspace.proofs.at_most.Given as goal

abbrev pub invariant-loop-i : goal.invariant-loop-i
invariant-loop-i l =
    (all_at_most (to_words l.rank (drop l.sizes l.body)) (to_words l.rank (drop l.maxima l.body)) ≡ all_at_most (words_from l.body l.sizes l.rank l.i)
    (words_from l.body l.maxima l.rank l.i))
