-- The guess is an object in use, and its address was compared; a short list has none.
use Rattle.format.specs.Limits.{objects_most}
use Rattle.ledger.proofs.SearchLaws.{guess-in}
use native.Mathlib.Omega.{arith}
use Rattle.ledger.proofs.search.ObjectList.guessed.Goals as goal

pub offset_bounds-addresses-guess_at : goal.offset_bounds-addresses-guess_at
unfolding objects_most
offset_bounds-addresses-guess_at c = omega (arith, guess-in c.args.address)

pub bounds-addresses-guess_at : goal.bounds-addresses-guess_at
unfolding objects_most
bounds-addresses-guess_at c = omega (arith, guess-in c.args.address)
