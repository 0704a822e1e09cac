-- The log is cleared, and the rest is the reply to a refusal.
use Rattle.front.proofs.Reply.{all-zero}
use Rattle.front_mend.proofs.refuse.Goals as goal

pub returns : goal.returns
returns c = record {
  value = c.refuse.ensures.value;
  blocks_after = c.refuse.ensures.blocks_after;
  log_after = all-zero c.args.log.now _ c.clear_from.ensures;
  reply_after = c.refuse.ensures.reply_after;
}
