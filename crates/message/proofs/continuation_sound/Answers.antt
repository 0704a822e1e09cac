-- Only a continuation has the field.
use mathlib.Core.Path.{ap}
use borrow.Author.Tests.{eq-eqb}
use lib.Dec.{leb}
use Rattle.message.proofs.continuation_sound.Goals as goal

pub returns : goal.returns
returns c = rw (eq-eqb _ 0x0010 c.if-kind-ne16.false) (ap (leb 8) c.u64_at.ensures.value)
