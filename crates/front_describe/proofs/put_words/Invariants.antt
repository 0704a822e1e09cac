-- The first i words are written; each turn writes one more.
use mathlib.Core.Path.{◌≡◌}
use lib.ListN.{length, take}
use Rattle.format.specs.Bytes.{overwrite}
use Rattle.format.specs.Front.{word_bytes}
use Rattle.front_describe.proofs.put_words.Given as goal

abbrev pub invariant-loop-i : goal.invariant-loop-i
invariant-loop-i l =
    (length l.reply ≡ length l.initial.reply) × (l.reply ≡ overwrite l.initial.reply l.at (word_bytes (take l.i l.words)))
