-- The version byte decides.
use borrow.Author.Tests.{eq-eqb, ne_eqb}
use Rattle.format.specs.Superblock.{version_shift}
use native.Mathlib.Omega.{arith}
use Rattle.superblock.proofs.version_shift.Goals as goal

pub returns-then-image-eq1 : goal.returns-then-image-eq1
unfolding version_shift
returns-then-image-eq1 c = record { holds = omega arith; value = simp (eq-eqb _ _ c.if-image-eq1.true); most = omega arith }

pub returns : goal.returns
unfolding version_shift
returns c = record { holds = omega arith; value = simp (ne_eqb _ _ c.if-image-eq1.false); most = omega arith }
