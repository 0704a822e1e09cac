-- The whole product is the product so far times the sizes that are left; none of them is 0, so it only grows.
use Prim.Native.Nat.{◌*◌, ◌≤◌}
use mathlib.Core.Path.{◌≡◌}
use mathlib.Core.Bool.{false}
use lib.ListN.{drop}
use Rattle.format.specs.Bytes.{to_words, contains}
use Rattle.format.specs.Dataspace.{product}
use Rattle.dataspace.proofs.DataspaceLaws.{words_from}
use Rattle.dataspace.proofs.multiplies_to.Given as goal

abbrev pub invariant-loop-i : goal.invariant-loop-i
invariant-loop-i l =
    let left = words_from l.body 8 l.rank l.i in
    (l.so_far ≤ l.stored) × (contains 0 left ≡ false) × (product (to_words l.rank (drop 8 l.body)) * l.element_size ≡ l.so_far * product left)
