-- Each return by the class's place among 0, 1 and 4.
use Rattle.datatype.proofs.DatatypeLaws.{bits-low, bits-high}
use Rattle.datatype.proofs.has_bits.Goals as goal

pub returns-then-class-le1 : goal.returns-then-class-le1
returns-then-class-le1 c = bits-low _ c.if-class-le1.true

pub returns : goal.returns
returns c = bits-high _ c.if-class-le1.false
