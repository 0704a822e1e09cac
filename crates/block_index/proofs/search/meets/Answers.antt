-- The block in the place decides.
use native.Mathlib.Omega.{arith}
use Rattle.block_index.proofs.SearchLaws.{never_met, place-last, words_inside, place-hit, place-apart}
use Rattle.block_index.proofs.search.meets.Goals as goal

pub returns-then-run-place : goal.returns-then-run-place
returns-then-run-place c =
    record {
      by_index = λ a n e p t. never_met t;
      by_index_2 = λ a n e p t. place-last _ _ a n _ c.requires p (omega (arith, c.if-run-place.true));
    }

pub overflow_add-b-2 : goal.overflow_add-b-2
overflow_add-b-2 c = omega (arith, words_inside _ _ c.requires c.args.place (omega (arith, c.if-run-place.false)))

pub overflow_mul-result : goal.overflow_mul-result
overflow_mul-result c = omega (arith, words_inside _ _ c.requires c.args.place (omega (arith, c.if-run-place.false)))

pub offset_bounds-blocks-b : goal.offset_bounds-blocks-b
offset_bounds-blocks-b c = omega (arith, words_inside _ _ c.requires c.args.place (omega (arith, c.if-run-place.false)))

pub bounds-blocks-b : goal.bounds-blocks-b
bounds-blocks-b c = omega (arith, words_inside _ _ c.requires c.args.place (omega (arith, c.if-run-place.false)))

pub returns : goal.returns
returns c =
    let s = c in
    let l = c.if-run-place.false in record {
      by_index = λ a n e p. place-hit _ _ a n _ s.requires p _ (omega (arith, l)) e;
      by_index_2 = λ a n e p. place-apart _ _ a n _ s.requires p _ (omega (arith, l)) e;
    }
