-- A string of no byte is no name; one byte may be "."; all that was read is the string.
use Rattle.names.proofs.SizeLaws.{size-empty, size-other, size-dot, size-one}
use native.Mathlib.Omega.{arith}
use Rattle.names.proofs.size_unless_dot.Goals as goal
use Rattle.names.proofs.size_unless_dot.Goals.{else-n-eq1-via-then-n-eq1+else-segment-off-eq46, else-n-eq1-via-else-n-eq1}

pub returns-then-n-eq0 : goal.returns-then-n-eq0
returns-then-n-eq0 c = size-empty _ _ c.requires.segment_in_bounds c.requires.slashless c.if-n-eq0.true

pub returns-then-segment-off-eq46 : goal.returns-then-segment-off-eq46
returns-then-segment-off-eq46 c = size-dot _ _ c.requires.segment_in_bounds c.requires.slashless (omega arith) (omega arith)

pub returns : goal.returns
returns c =
    elim c.else-n-eq1.branch [
      | else-n-eq1-via-then-n-eq1+else-segment-off-eq46 w ↦
          size-one _ _ c.requires.segment_in_bounds c.requires.slashless (omega arith) w.if-segment-off-eq46.false
      | else-n-eq1-via-else-n-eq1 w ↦ size-other _ _ c.requires.segment_in_bounds c.requires.slashless (omega arith) w.if-n-eq1.false
    ]
