-- The undefined address is the number that is filled in.
use Rattle.std.proofs.Common.{rules}
use Rattle.format.specs.Bytes.{undefined_address}
use Rattle.damaged_block.proofs.entered.fill_undefined.Goals as goal

pub returns : goal.returns
unfolding undefined_address
returns c = c.fill.ensures.after (λ y e. search rules)
