-- All are cleared from their first byte on.
use Rattle.front.proofs.Reply.{all-zero}
use Rattle.front_mend.proofs.clear_all.Goals as goal

pub returns : goal.returns
returns c = record {
  blocks_after = c.clear_both.ensures.blocks_after;
  log_after = all-zero c.args.log.now _ c.clear_from.ensures;
  reply_after = c.clear_both.ensures.reply_after;
}
