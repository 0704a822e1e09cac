-- Where the loop begins, at each turn, and behind it.
use mathlib.Core.Path.{refl, ◌∙◌}
use Rattle.format.specs.Bytes.{overwrite}
use Rattle.format.specs.Front.{word_bytes}
use Rattle.front.proofs.Reply.{put-more, put_all}
use Rattle.front_describe.proofs.put_words.Goals as goal

pub loop-i-init : goal.loop-i-init
unfolding overwrite word_bytes
loop-i-init c = (refl, refl)

pub loop-i-preserved : goal.loop-i-preserved
loop-i-preserved c =
    let l = c.loop-i in
    let a = c.args in
    let w = c.put_word in (
      w.auto.out ∙ l.invariant.0,
      put-more a.reply.now l.reply _ a.words.now a.at l.i l.invariant.1 c.loop-i-test.true w.ensures,
    )

pub returns : goal.returns
returns c =
    let l = c.loop-i in
    let a = c.args in
    put_all a.reply.now l.reply a.words.now a.at l.i l.invariant.1 c.loop-i-test.false
