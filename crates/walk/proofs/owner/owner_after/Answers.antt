-- One law for each way out.
use mathlib.Core.Path.{sym}
use Rattle.format.specs.Bytes.{undefined_address}
use Rattle.walk.proofs.Owners.{owner-superblock, owner-same, owner-first, owner-next}
use native.Mathlib.Omega.{arith}
use Rattle.walk.proofs.owner.owner_after.Goals as goal

pub returns-then-kind-eq-SUPERBLOCK : goal.returns-then-kind-eq-SUPERBLOCK
unfolding undefined_address
returns-then-kind-eq-SUPERBLOCK c = sym (owner-superblock _ _ c.if-kind-eq-SUPERBLOCK.true)

pub returns-then-kind-ne-HEADER : goal.returns-then-kind-ne-HEADER
returns-then-kind-ne-HEADER c = sym (owner-same _ _ c.if-kind-eq-SUPERBLOCK.false c.if-kind-ne-HEADER.true)

pub returns-then-last-eq-NO_OBJECT : goal.returns-then-last-eq-NO_OBJECT
unfolding undefined_address
returns-then-last-eq-NO_OBJECT c = sym (owner-first _ _ (omega arith) c.if-last-eq-NO_OBJECT.true)

pub returns : goal.returns
unfolding undefined_address
returns c = sym (owner-next _ _ (omega arith) c.if-last-eq-NO_OBJECT.false)
