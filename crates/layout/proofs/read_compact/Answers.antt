-- The size decides.
use Rattle.layout.proofs.LayoutLaws.{compact-short, compact-read}
use Rattle.layout.proofs.read_compact.Goals as goal

pub returns-then-body-size : goal.returns-then-body-size
returns-then-body-size c = compact-short _ c.u16_at-size.ensures c.if-body-size.true

pub returns : goal.returns
returns c = compact-read _ c.u16_at-size.ensures c.if-body-size.false
