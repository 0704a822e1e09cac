-- The block is the superblock's.
use mathlib.Core.Path.{refl}
use Rattle.report.proofs.unopened.Goals as goal

pub returns : goal.returns
returns c = rw c.superblock_head.ensures refl
