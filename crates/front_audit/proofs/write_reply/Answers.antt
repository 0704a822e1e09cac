-- Where the loop begins, at each turn, and behind it.
use mathlib.Core.Path.{◌≡◌, refl, ◌∙◌}
use lib.ListN.{length}
use Rattle.front.proofs.Reply.{reply-start, reply-more, reply-end}
use native.Mathlib.Omega.{arith}
use Rattle.front_audit.proofs.write_reply.Goals as goal

pub loop-i-init : goal.loop-i-init
loop-i-init c = (
  c.put_word-2.auto.out ∙ c.put_word.auto.out,
  reply-start _ _ _ _ _ c.args.reply.now _ _ (omega (arith, c.requires.room)) c.put_word.ensures c.put_word-2.ensures,
)

pub loop-i-preserved : goal.loop-i-preserved
loop-i-preserved c =
    let l = c.loop-i in
    let p = c.put_object in (
      p.auto.reply ∙ l.invariant.0,
      reply-more _ _ _ _ _ l.reply _ l.i l.invariant.1 (omega (arith, c.requires.room, l.invariant.0, c.loop-i-test.true)) p.ensures,
    )

pub returns : goal.returns
returns c =
    let l = c.loop-i in
    let objects = length c.args.addresses.now in
    let all : l.i ≡ objects = omega arith in
    reply-end _ _ _ _ _ l.reply _ objects _ (rw all at l.invariant.1) refl l.invariant.0 c.clear_from.ensures
