-- The first test that fails decides; where all but the last pass, the last does.
use borrow.Author.Tests.{lt-leb, le-leb, eq-eqb, ne_eqb}
use Rattle.format.specs.Superblock.{versions_read}
use Rattle.walk.proofs.Tests.{all-fails, all-passes, all-last}
use Rattle.superblock.proofs.versions_read.Goals as goal

pub returns-then-image-gt1 : goal.returns-then-image-gt1
unfolding versions_read
returns-then-image-gt1 c = all-fails _ (lt-leb _ _ c.if-image-gt1.true)

pub returns-then-image-ne0 : goal.returns-then-image-ne0
unfolding versions_read
returns-then-image-ne0 c = all-passes _ (le-leb _ _ c.if-image-gt1.false) (all-fails _ (ne_eqb _ _ c.if-image-ne0.true))

pub returns-then-image-ne0-2 : goal.returns-then-image-ne0-2
unfolding versions_read
returns-then-image-ne0-2 c =
    all-passes _ (le-leb _ _ c.if-image-gt1.false)
    (all-passes _ (eq-eqb _ _ c.if-image-ne0.false) (all-fails _ (ne_eqb _ _ c.if-image-ne0-2.true)))

pub returns : goal.returns
unfolding versions_read
returns c =
    all-passes _ (le-leb _ _ c.if-image-gt1.false)
    (all-passes _ (eq-eqb _ _ c.if-image-ne0.false) (all-passes _ (eq-eqb _ _ c.if-image-ne0-2.false) (all-last _)))
