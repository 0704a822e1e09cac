-- The length decides.
use borrow.Author.Tests.{lt-leb}
use Rattle.format.specs.Layout.{read_contiguous}
use Rattle.laws.proofs.Results.{fails}
use Rattle.layout.proofs.LayoutLaws.{contiguous-read}
use Rattle.layout.proofs.read_contiguous.Goals as goal

pub returns-then-body-lt18 : goal.returns-then-body-lt18
unfolding read_contiguous
returns-then-body-lt18 c = fails _ _ (lt-leb _ _ c.if-body-lt18.true)

pub returns : goal.returns
returns c = contiguous-read c.u64_at-address.ensures c.u64_at-size.ensures c.if-body-lt18.false
