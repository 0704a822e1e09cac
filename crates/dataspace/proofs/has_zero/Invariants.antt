-- What the whole search finds is what is found from the ith size on; each turn settles one.
use mathlib.Core.Path.{◌≡◌}
use lib.ListN.{drop}
use Rattle.format.specs.Bytes.{to_words, contains}
use Rattle.dataspace.proofs.DataspaceLaws.{words_from}
use Rattle.dataspace.proofs.has_zero.Given as goal

abbrev pub invariant-loop-i : goal.invariant-loop-i
invariant-loop-i l = (contains 0 (to_words l.rank (drop 8 l.body)) ≡ contains 0 (words_from l.body 8 l.rank l.i))
