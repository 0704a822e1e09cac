-- One word is written, behind the order, or the list is too short for guesses.
use Rattle.format.specs.Limits.{objects_most}
use Rattle.ledger.proofs.SearchLaws.{guess-in}
use Rattle.ledger.proofs.AddLaws.{guess-written, no-guesses}
use native.Mathlib.Omega.{arith}
use Rattle.ledger.proofs.search.remember.Goals as goal

pub returns-then-addresses-lt-TABLE_WORDS : goal.returns-then-addresses-lt-TABLE_WORDS
unfolding objects_most
returns-then-addresses-lt-TABLE_WORDS c = let a = c.args in no-guesses a.addresses.now a.address a.object (omega (arith, c.if-addresses-lt-TABLE_WORDS.true))

pub offset_bounds-addresses-guess_at : goal.offset_bounds-addresses-guess_at
unfolding objects_most
offset_bounds-addresses-guess_at c = omega (arith, guess-in c.args.address)

pub bounds-addresses-guess_at : goal.bounds-addresses-guess_at
unfolding objects_most
bounds-addresses-guess_at c = omega (arith, guess-in c.args.address)

pub returns : goal.returns
unfolding objects_most
returns c =
    let a = c.args in
    rw c.guess_at.ensures (guess-written a.addresses.now a.address a.object (omega (arith, c.if-addresses-lt-TABLE_WORDS.false)))
