-- The three words, one behind the other.
use mathlib.Core.List.{[], ◌∷◌}
use mathlib.Core.Path.{refl}
use Rattle.front.proofs.Reply.{put_first, put_next}
use Rattle.front_audit.proofs.put_object.Goals as goal

pub returns : goal.returns
returns c =
    let a = c.args in
    let b = a.reply.now in
    let one = put_first b _ a.at a.address c.put_word.ensures in
    let two = put_next b _ _ (a.address ∷ []) a.at _ a.stored one refl c.put_word-2.ensures in
    put_next b _ _ (a.address ∷ a.stored ∷ []) a.at _ a.true_count two refl c.put_word-3.ensures
