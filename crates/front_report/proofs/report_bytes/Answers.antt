-- The laws of Reported.antt, at the two ends of the code.
use Prim.Native.Nat.{◌/◌, ◌≤◌}
use lib.ListN.{length}
use Rattle.front.proofs.Lent.{room_fits}
use Rattle.front_report.proofs.Reported.{short-reply, whole-reply}
use native.Mathlib.Omega.{arith}
use Rattle.front_report.proofs.report_bytes.Goals as goal

pub returns-then-reply-lt-REPLY_WORDS : goal.returns-then-reply-lt-REPLY_WORDS
returns-then-reply-lt-REPLY_WORDS c =
    let a = c.args in
    short-reply a.image.now (length a.blocks.now) (length a.reply.now) _ _
    (omega (arith, c.if-reply-lt-REPLY_WORDS.true)) c.clear_both.ensures.blocks_after c.clear_both.ensures.reply_after

pub report_in-requires : goal.report_in-requires
report_in-requires c =
    let fits = room_fits _ _ c.room-room.ensures in
    record {
      room_le_blocks_most = fits.0;
      room_in_bounds = fits.1;
      in_bounds = omega (arith, c.if-reply-lt-REPLY_WORDS.false);
    }

pub returns : goal.returns
returns c =
    let a = c.args in
    let long : 8 ≤ length a.reply.now / 8 = omega (arith, c.if-reply-lt-REPLY_WORDS.false) in
    whole-reply a.image.now (length a.blocks.now) (length a.reply.now) long _ _ c.report_in.ensures
    c.room-room.ensures
