-- Each return by the class.
use mathlib.Core.Path.{sym, ◌∙◌}
use Rattle.datatype.proofs.DatatypeLaws.{extent-one, extent-bits, extent-plain}
use Rattle.datatype.proofs.needed.Goals as goal

pub returns-then-class-eq1 : goal.returns-then-class-eq1
returns-then-class-eq1 c = extent-one _ c.if-class-eq1.true

pub returns-then-has_bits : goal.returns-then-has_bits
returns-then-has_bits c = extent-bits _ c.if-class-eq1.false (sym c.has_bits.ensures ∙ c.if-has_bits.true)

pub returns : goal.returns
returns c = extent-plain _ c.if-class-eq1.false (sym c.has_bits.ensures ∙ c.if-has_bits.false)
