-- What the call with less room gives is the reply, unless it is for want of room.
use Rattle.format.specs.Answers.{audit}
use Rattle.format.specs.Front.{c_audit_end}
use lib.ListN.{length}
use Prim.Native.Nat.{ℕ, ◌*◌}
use Rattle.front.proofs.Call.{of-slices}
use Rattle.front_audit.proofs.Audited.{few-reply}
use Rattle.format.specs.Limits.{blocks_most, objects_most}
use native.Mathlib.Omega.{arith}
use Rattle.front_audit.proofs.+audit_in.Goals as goal

pub returns-then-number-ne-NO_ROOM : goal.returns-then-number-ne-NO_ROOM
returns-then-number-ne-NO_ROOM t c =
    let a = c.args in
    few-reply a.image.now (length a.blocks.now) (length a.reply.now) c.few_room.result a.room _
    c.audit_in-number.ensures (omega (arith, c.few_room.ensures, c.if-room-le-FEW_BLOCKS.false)) c.requires.room_in_bounds
    c.if-number-ne-NO_ROOM.true

pub audit_sized-requires-clause-table : goal.audit_sized-requires-clause-table
unfolding objects_most
audit_sized-requires-clause-table t c = omega arith

pub audit_sized-requires-2-clause-table : goal.audit_sized-requires-2-clause-table
unfolding objects_most
audit_sized-requires-2-clause-table t c = omega arith

pub audit_sized-requires-2-clause-words : goal.audit_sized-requires-2-clause-words
unfolding blocks_most
audit_sized-requires-2-clause-words t c = omega (arith, c.requires.room_le_blocks_most)

pub returns : goal.returns
returns t c =
    let a = c.args in
    let k = c.if-image-le-SMALL_IMAGE.auto in
    of-slices (λ (l r : ℕ). c_audit_end l r (audit a.image.now (4 * a.room))) _ _ _ _ _ k.blocks k.reply c.audit_sized-2.ensures
