-- What the call with less room gives is the reply, unless it is for want of room.
use Rattle.format.specs.Answers.{lookup}
use Rattle.format.specs.Front.{c_lookup_end}
use lib.ListN.{length}
use Prim.Native.Nat.{ℕ, ◌*◌}
use Rattle.front.proofs.Call.{of-slices}
use Rattle.front_lookup.proofs.Located.{few-reply}
use Rattle.format.specs.Limits.{blocks_most}
use native.Mathlib.Omega.{arith}
use Rattle.front_lookup.proofs.+lookup_in.Goals as goal

pub returns-then-decided : goal.returns-then-decided
returns-then-decided t c =
    let a = c.args in
    few-reply a.image.now a.path.now (length a.blocks.now) (length a.reply.now) c.few_room.result a.room _
    c.lookup_in-number.ensures (omega (arith, c.few_room.ensures, c.if-room-le-FEW_BLOCKS.false)) c.requires.room_in_bounds
    c.if-decided.true

pub lookup_sized-requires-2-clause-words : goal.lookup_sized-requires-2-clause-words
unfolding blocks_most
lookup_sized-requires-2-clause-words t c = omega (arith, c.requires.room_le_blocks_most)

pub returns : goal.returns
returns t c =
    let a = c.args in
    let k = c.if-few_first.auto in
    of-slices (λ (l r : ℕ). c_lookup_end l r (lookup a.image.now a.path.now (4 * a.room))) _ _ _ _ _ k.blocks k.reply c.lookup_sized-2.ensures
