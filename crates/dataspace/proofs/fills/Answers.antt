-- With a size of 0 the product is 0; without one it is multiplied out.
use mathlib.Core.Path.{sym, ◌∙◌}
use Rattle.dataspace.proofs.DataspaceLaws.{fills-none}
use Rattle.dataspace.proofs.fills.Goals as goal

pub returns-then-has_zero : goal.returns-then-has_zero
returns-then-has_zero c =
    let a = c.args in
    fills-none _ a.element_size a.stored (sym c.has_zero.ensures ∙ c.if-has_zero.true)

pub multiplies_to-requires : goal.multiplies_to-requires
multiplies_to-requires c = record { inside = c.requires; nonzero = sym c.has_zero.ensures ∙ c.if-has_zero.false }
