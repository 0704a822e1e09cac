-- Both are cleared from their first byte on.
use Rattle.front.proofs.Reply.{all-zero}
use Rattle.front.proofs.clear_both.Goals as goal

pub returns : goal.returns
returns c =
    let a = c.args in record {
      blocks_after = all-zero a.blocks.now _ c.clear_from.ensures;
      reply_after = all-zero a.reply.now _
          c.clear_from-2.ensures;
    }
