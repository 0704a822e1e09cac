-- Each return by the class's place among 0, 1 and 3 to 5.
use Rattle.datatype.proofs.DatatypeLaws.{class_low, class-gap, class-high}
use Rattle.datatype.proofs.class_read.Goals as goal

pub returns-then-class-le1 : goal.returns-then-class-le1
returns-then-class-le1 c = class_low _ c.if-class-le1.true

pub returns-then-class-lt3 : goal.returns-then-class-lt3
returns-then-class-lt3 c = class-gap _ c.if-class-le1.false c.if-class-lt3.true

pub returns : goal.returns
returns c = class-high _ c.if-class-le1.false c.if-class-lt3.false
