-- The first test that fails decides; where all but the last pass, the last does.
use mathlib.Core.Path.{sym, ◌∙◌}
use Rattle.format.specs.Superblock.{superblock_read}
use Rattle.walk.proofs.Tests.{all-fails, all-passes, all-last}
use Rattle.superblock.proofs.superblock_read.Goals as goal

pub returns-then-not-versions_read : goal.returns-then-not-versions_read
unfolding superblock_read
returns-then-not-versions_read c = all-fails _ (sym c.versions_read.ensures ∙ c.if-not-versions_read.true)

pub returns-then-not-sizes_read : goal.returns-then-not-sizes_read
unfolding superblock_read
returns-then-not-sizes_read c =
    all-passes _ (sym c.versions_read.ensures ∙ c.if-not-versions_read.false)
    (all-fails _ (sym c.sizes_read.ensures ∙ c.if-not-sizes_read.true))

pub returns : goal.returns
unfolding superblock_read
returns c =
    all-passes _ (sym c.versions_read.ensures ∙ c.if-not-versions_read.false)
    (all-passes _ (sym c.sizes_read.ensures ∙ c.if-not-sizes_read.false) (c.addresses_read.ensures ∙ all-last _))
