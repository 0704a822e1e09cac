-- The part of the image is the body.
use mathlib.Core.Path.{subst, sym}
use mathlib.Core.List.{List}
use Prim.Native.Nat.{ℕ, ◌+◌, ◌*◌, ◌≤◌}
use lib.ListN.{length}
use Rattle.dataset.proofs.DatasetLaws.{body-part}
use Rattle.describe.proofs.fields.words_in.Goals as goal

pub words-requires : goal.words-requires
words-requires c =
    let a = c.args in
    record {
      rank_in_bounds = subst (λ (b : List ℕ). a.from + 8 * a.rank ≤ length b) (sym (body-part a.image.now a.body.place a.body.size)) c.requires.rank_in_bounds;
      rank_le_rank_most = c.requires.rank_le_rank_most;
    }

pub returns : goal.returns
returns c = rw body-part at c.words.ensures
