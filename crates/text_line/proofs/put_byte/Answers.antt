-- The byte is written inside the buffer alone. This file stands here so that an edit which writes behind it fails on that fact.
use native.Mathlib.Omega.{arith}
use Rattle.text_line.proofs.put_byte.Goals as goal

pub bounds-out-at : goal.bounds-out-at
bounds-out-at c = omega arith
