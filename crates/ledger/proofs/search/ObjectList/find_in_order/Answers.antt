-- The halving ends at the only object that can have the address.
use Rattle.ledger.proofs.SearchLaws.{from_sorted, order-object, sought-there, sought-none}
use native.Mathlib.Omega.{arith}
use Rattle.ledger.proofs.search.ObjectList.find_in_order.Goals as goal

pub halve-found-requires : goal.halve-found-requires
halve-found-requires c = from_sorted _ _ c.args.address c.requires _ c.the_limits-from.ensures.objects_most_equal

pub overflow_add-tests : goal.overflow_add-tests
overflow_add-tests c = omega (arith, c.halve-found.ensures.tests 64 (omega arith))

pub offset_bounds-addresses-object : goal.offset_bounds-addresses-object
offset_bounds-addresses-object c =
    omega (arith, order-object _ _ c.args.address c.requires _ c.the_limits-from.ensures.objects_most_equal _ c.if-order-self.true)

pub bounds-addresses-object : goal.bounds-addresses-object
bounds-addresses-object c =
    omega (arith, order-object _ _ c.args.address c.requires _ c.the_limits-from.ensures.objects_most_equal _ c.if-order-self.true)

pub returns-then-addresses-object : goal.returns-then-addresses-object
returns-then-addresses-object c =
    let halve = c in
    let limits = halve in
    sought-there _ _ _ limits.requires _ limits.the_limits-from.ensures.objects_most_equal _ halve.halve-found.ensures
    c.if-order-self.true c.if-addresses-object.true

pub returns-else-addresses-object : goal.returns-else-addresses-object
returns-else-addresses-object c =
    let halve = c in
    let limits = halve in
    sought-none _ _ _ limits.requires _ limits.the_limits-from.ensures.objects_most_equal _ halve.halve-found.ensures (λ _. c.if-addresses-object.false)

pub returns-else-order-self : goal.returns-else-order-self
returns-else-order-self c =
    let halve = c in
    let limits = halve in
    sought-none _ _ _ limits.requires _ limits.the_limits-from.ensures.objects_most_equal _ halve.halve-found.ensures (λ h. absurd (omega arith))
