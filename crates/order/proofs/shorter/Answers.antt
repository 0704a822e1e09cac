-- The shorter one is a beginning of the other: the lengths decide.
use Rattle.order.proofs.Windows.{beginning}
use Rattle.order.proofs.shorter.Goals as goal

pub returns : goal.returns
returns c = beginning _ _ c.requires
