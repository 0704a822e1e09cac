-- Each return by the version, and by the type in version 3.
use Rattle.datatype.proofs.DatatypeLaws.{shared-2, shared-other, shared-3}
use Rattle.datatype.proofs.shared_read.Goals as goal

pub returns-then-body-eq2 : goal.returns-then-body-eq2
returns-then-body-eq2 c = shared-2 c.args.body.now c.if-body-eq2.true

pub returns-then-body-ne3 : goal.returns-then-body-ne3
returns-then-body-ne3 c = shared-other c.args.body.now c.if-body-eq2.false c.if-body-ne3.true

pub returns : goal.returns
returns c = shared-3 c.args.body.now c.if-body-eq2.false c.if-body-ne3.false
