-- The laws of Undone.antt, at the three ends of the code.
use lib.ListN.{length}
use Rattle.front.proofs.Reply.{all-zero}
use Rattle.front_undo.proofs.Undone.{short-reply, done-reply, refused-reply}
use native.Mathlib.Omega.{arith}
use Rattle.front_undo.proofs.undo_bytes.Goals as goal

pub returns-then-reply-lt-REPLY_WORDS : goal.returns-then-reply-lt-REPLY_WORDS
returns-then-reply-lt-REPLY_WORDS c =
    let a = c.args in
    short-reply a.image.now a.log.now (length a.reply.now) a.entries a.limit _
    (omega (arith, c.if-reply-lt-REPLY_WORDS.true))
    (all-zero a.reply.now _ c.clear_from.ensures)

pub returns-in-Err : goal.returns-in-Err
returns-in-Err c =
    let a = c.args in
    refused-reply a.image.now a.log.now (length a.reply.now) a.entries a.limit _ (omega (arith, c.if-reply-lt-REPLY_WORDS.false)) _
    c.in-Err.ensures.reply _ c.in-Err.ensures.refused (all-zero a.reply.now _ c.clear_from-in-Err.ensures)

pub returns-in-Ok : goal.returns-in-Ok
returns-in-Ok c =
    let a = c.args in
    done-reply a.image.now a.log.now (length a.reply.now) a.entries a.limit _ (omega (arith, c.if-reply-lt-REPLY_WORDS.false)) _
    c.in-Ok.ensures.reply _ c.spill.ensures
