-- The parts one behind the other, and zeros.
use mathlib.Core.Path.{refl}
use Rattle.front.proofs.Reply.{description-bytes}
use borrow.Author.Rules.{rules}
use Rattle.front_describe.proofs.write_description.Goals as goal

pub returns : goal.returns
returns c =
    let d = c.args.d in
    description-bytes c.args.reply.now _ _ _ _ _ d.block_count d.rank d.sizes d.maxima _ (search rules) (search rules) refl c.requires
    c.put_words.ensures c.put_words-2.ensures c.put_words-3.ensures c.put_words-4.ensures c.clear_from.ensures
