-- The maxima stand behind the sizes, where they are stored.
use native.Mathlib.Omega.{arith}
use Rattle.format.specs.Limits.{rank_most}
use Rattle.describe.proofs.fields.maxima_in.Goals as goal

pub overflow_mul-rank : goal.overflow_mul-rank
unfolding rank_most
overflow_mul-rank c = omega (arith, c.requires.shaped.0)

pub overflow_add-rank : goal.overflow_add-rank
unfolding rank_most
overflow_add-rank c = omega (arith, c.requires.shaped.0)

pub words_in-requires : goal.words_in-requires
words_in-requires c =
    let m = rw c.if-dataset.true at c.requires.shaped in
    record {
      inside = c.requires.inside;
      rank_in_bounds = omega (arith, m.2);
      rank_le_rank_most = m.0;
    }

pub returns-then-dataset : goal.returns-then-dataset
returns-then-dataset c = rw c.if-dataset.true c.words_in.ensures

pub returns : goal.returns
returns c = rw c.if-dataset.false c.words_in-2.ensures
