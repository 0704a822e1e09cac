-- The guess is the object, or the order is searched.
use Rattle.ledger.proofs.SearchLaws.{sought-guess}
use native.Mathlib.Omega.{arith}
use Rattle.ledger.proofs.search.ObjectList.find.Goals as goal

pub returns-in-Some : goal.returns-in-Some
returns-in-Some c = sought-guess _ _ _ c.requires _ c.in-Some.ensures

pub overflow_add-result : goal.overflow_add-result
overflow_add-result c = omega (arith, c.find_in_order-found.ensures.tests 64 (omega arith))
