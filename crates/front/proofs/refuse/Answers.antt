-- With 6 the reply begins with the block met; with any other answer it is zeros.
use mathlib.Core.Path.{refl, ◌∙◌, sym}
use lib.ListN.{length}
use borrow.Author.Tests.{eq-eqb, ne_eqb}
use Rattle.format.specs.Walk.{answer_of}
use Rattle.words.proofs.Words.{padded-zeros}
use Rattle.front.proofs.Reply.{all-zero}
use native.Mathlib.Omega.{arith}
use Rattle.front.proofs.refuse.Goals as goal

pub returns-then-without_block : goal.returns-then-without_block
returns-then-without_block c =
    let a = c.args in
    let is = c.number_of-number.ensures in
    let six = ne_eqb (answer_of a.refusal) 6 (λ e. c.if-without_block.true (is ∙ e)) in
    record {
      value = is;
      blocks_after = c.clear_both.ensures.blocks_after;
      reply_after = c.clear_both.ensures.reply_after ∙ simp six (sym (padded-zeros (length a.reply.now) 0 (omega arith)));
    }

pub returns : goal.returns
returns c =
    let a = c.args in
    let is = c.number_of-number.ensures in
    let six = eq-eqb (answer_of a.refusal) 6 (sym is ∙ c.if-without_block.false) in
    record {
      value = is;
      blocks_after = all-zero a.blocks.now _ c.clear_from.ensures;
      reply_after = c.spill.ensures ∙ rw c.met_of.ensures (simp six refl);
    }
