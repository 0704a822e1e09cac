-- What the library's comparison finds.
use Rattle.std.proofs.Common.{◌∙◌}
use Rattle.order.proofs.Comparing.{pointwise-same}
use Rattle.order.proofs.same.Goals as goal

pub returns : goal.returns
returns c = c.eq.ensures ∙ pointwise-same c.args.a.now c.args.b.now
