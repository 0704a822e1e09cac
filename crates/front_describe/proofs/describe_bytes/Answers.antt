-- The laws of Described.antt, at the two ends of the code.
use Prim.Native.Nat.{◌+◌, ◌*◌, ◌/◌, ◌≤◌}
use lib.ListN.{length}
use Rattle.format.specs.Limits.{rank_most}
use Rattle.front.proofs.Lent.{room_fits}
use Rattle.front_describe.proofs.Described.{short-reply, whole-reply}
use native.Mathlib.Omega.{arith}
use Rattle.front_describe.proofs.describe_bytes.Goals as goal

pub overflow_mul-limits : goal.overflow_mul-limits
unfolding rank_most
overflow_mul-limits c = record { fits = omega (arith, c.the_limits-limits.ensures.rank_most_equal) }

pub overflow_add-limits : goal.overflow_add-limits
unfolding rank_most
overflow_add-limits c = record { fits = omega (arith, c.the_limits-limits.ensures.rank_most_equal) }

pub returns-then-reply-limits : goal.returns-then-reply-limits
returns-then-reply-limits c =
    let a = c.args in
    short-reply a.image.now a.path.now (length a.blocks.now) (length a.reply.now) _ _
    (omega (arith, c.if-reply-limits.true, c.the_limits-limits.ensures.rank_most_equal)) c.clear_both.ensures.blocks_after c.clear_both.ensures.reply_after

pub describe_in-requires : goal.describe_in-requires
describe_in-requires c =
    let fits = room_fits _ _ c.room-room.ensures in
    record {
      room_le_blocks_most = fits.0;
      room_in_bounds = fits.1;
      rank_most_in_bounds = omega (arith, c.if-reply-limits.false, c.the_limits-limits.ensures.rank_most_equal);
    }

pub returns : goal.returns
returns c =
    let a = c.args in
    let long : 10 + 2 * rank_most ≤ length a.reply.now / 8 = omega (arith, c.if-reply-limits.false, c.the_limits-limits.ensures.rank_most_equal) in
    whole-reply a.image.now a.path.now (length a.blocks.now) (length a.reply.now) long _ _ c.describe_in.ensures
    c.room-room.ensures
