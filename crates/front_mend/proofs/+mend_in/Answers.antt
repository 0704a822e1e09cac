-- What the call with less room gives is the reply, unless it is for want of room. That leaves the image.
use Prim.Native.Nat.{◌*◌}
use mathlib.Core.Path.{◌≡◌, ◌∙◌}
use lib.ListN.{length}
use Rattle.front_mend.proofs.Mended.{few-reply, refused-image, same-slices}
use Rattle.format.specs.Limits.{blocks_most}
use native.Mathlib.Omega.{arith}
use Rattle.front_mend.proofs.+mend_in.Goals as goal
use Rattle.front_mend.proofs.+mend_in.Goals.{then-image-le-SMALL_IMAGE+else-number-ne-NO_ROOM, else-image-le-SMALL_IMAGE}

pub returns-then-number-ne-NO_ROOM : goal.returns-then-number-ne-NO_ROOM
returns-then-number-ne-NO_ROOM t c =
    let a = c.args in
    few-reply a.image.now (length a.blocks.now) (length a.log.now) (length a.reply.now) a.limit c.few_room-few.result a.room _
    c.mend_in-number.ensures (omega (arith, c.few_room-few.ensures, c.if-room-le-FEW_BLOCKS.false)) c.requires.room_in_bounds
    c.if-number-ne-NO_ROOM.true

pub mend_sized-requires-2-clause-words : goal.mend_sized-requires-2-clause-words
unfolding blocks_most
mend_sized-requires-2-clause-words t c = omega (arith, c.requires.room_le_blocks_most)

pub returns : goal.returns
returns t c =
    let a = c.args in
    let join = c.if-image-le-SMALL_IMAGE in
    let left : join.image ≡ a.image.now = elim join.branch [
      | then-image-le-SMALL_IMAGE+else-number-ne-NO_ROOM w ↦
          w.image-is
          ∙ refused-image a.image.now (length a.blocks.now) (length a.log.now) (length a.reply.now) a.limit _ _ w.mend_in-number.ensures
          (omega (arith, w.if-number-ne-NO_ROOM.false))
      | else-image-le-SMALL_IMAGE w ↦ w.image-is
    ] in
    same-slices a.image.now _ (length a.blocks.now) (length a.log.now) (length a.reply.now) _ _ _ (4 * a.room) a.limit _
    left join.auto.blocks join.auto.log join.auto.reply c.mend_sized-2.ensures
