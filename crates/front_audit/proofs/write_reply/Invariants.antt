-- The reply begins with the counts and the first i objects; each turn writes one more.
use mathlib.Core.Path.{◌≡◌}
use lib.ListN.{length}
use Rattle.words.proofs.Words.{Begins}
use Rattle.front.proofs.Reply.{reply_words}
use Rattle.front_audit.proofs.write_reply.Given as goal

abbrev pub invariant-loop-i : goal.invariant-loop-i
invariant-loop-i l =
    (length l.reply ≡ length l.fn.reply) × Begins l.reply (reply_words l.block_count (length l.addresses) l.addresses l.stored l.true_counts l.i)
