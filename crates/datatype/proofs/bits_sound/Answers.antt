-- The precision first, then the sum.
use Rattle.datatype.proofs.DatatypeLaws.{bits-unsound, bits-decide}
use native.Mathlib.Omega.{arith}
use Rattle.datatype.proofs.bits_sound.Goals as goal

pub returns-then-precision-lt1 : goal.returns-then-precision-lt1
returns-then-precision-lt1 c = bits-unsound c.u16_at-precision.ensures _ c.if-precision-lt1.true

pub returns : goal.returns
returns c = bits-decide c.u16_at-precision.ensures _ c.u16_at.ensures (omega arith)
