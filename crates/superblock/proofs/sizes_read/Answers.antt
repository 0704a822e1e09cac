-- The first test that fails decides; where all but the last pass, the last does.
use borrow.Author.Tests.{eq-eqb, ne_eqb}
use Rattle.format.specs.Superblock.{sizes_read}
use Rattle.walk.proofs.Tests.{all-fails, all-passes, all-last}
use Rattle.superblock.proofs.sizes_read.Goals as goal

pub returns-then-image-ne8 : goal.returns-then-image-ne8
unfolding sizes_read
returns-then-image-ne8 c = all-fails _ (ne_eqb _ _ c.if-image-ne8.true)

pub returns : goal.returns
unfolding sizes_read
returns c = all-passes _ (eq-eqb _ _ c.if-image-ne8.false) (all-last _)
