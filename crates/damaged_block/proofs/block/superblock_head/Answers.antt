-- With 1 there is no block; else it is the first bytes of every image.
use borrow.Author.Tests.{eq-eqb, ne_eqb}
use Rattle.format.specs.Limits.{image_least}
use Rattle.format.specs.Bytes.{undefined_address}
use Rattle.damaged_block.proofs.block.superblock_head.Goals as goal

pub returns-then-short : goal.returns-then-short
returns-then-short c = rw (eq-eqb _ 1 c.if-short.true, c.no_block.ensures)

pub returns : goal.returns
unfolding image_least undefined_address
returns c = rw (ne_eqb _ 1 c.if-short.false)
