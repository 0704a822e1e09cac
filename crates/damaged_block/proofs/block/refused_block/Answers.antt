-- The number behind that of the last block.
use mathlib.Core.Path.{refl}
use Rattle.damaged_block.proofs.block.refused_block.Goals as goal

pub returns : goal.returns
returns c = λ bs e. rw (c.owner_after.ensures, c.last_owner.ensures bs e) refl
