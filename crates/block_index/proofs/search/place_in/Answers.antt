-- The last block's end is the greatest: where it isn't behind the address, none is.
use native.Mathlib.Omega.{arith}
use Prim.Native.Nat.{◌-◌}
use Rattle.block_index.proofs.SearchLaws.{placed-none, placed-last, words_inside, behind-small}
use Rattle.block_index.proofs.search.place_in.Goals as goal

pub returns-then-count-eq0 : goal.returns-then-count-eq0
returns-then-count-eq0 c = record {
  placed = placed-none _ _ _ (omega (arith, c.if-count-eq0.true));
  by_index = λ m h. omega arith;
}

pub overflow_add-b-2 : goal.overflow_add-b-2
overflow_add-b-2 c = omega (arith, words_inside _ _ c.requires (c.args.run.count - 1) (omega (arith, c.if-count-eq0.false)))

pub overflow_mul-before : goal.overflow_mul-before
overflow_mul-before c = omega (arith, words_inside _ _ c.requires (c.args.run.count - 1) (omega (arith, c.if-count-eq0.false)))

pub offset_bounds-blocks-b : goal.offset_bounds-blocks-b
offset_bounds-blocks-b c = omega (arith, words_inside _ _ c.requires (c.args.run.count - 1) (omega (arith, c.if-count-eq0.false)))

pub bounds-blocks-b : goal.bounds-blocks-b
bounds-blocks-b c = omega (arith, words_inside _ _ c.requires (c.args.run.count - 1) (omega (arith, c.if-count-eq0.false)))

pub overflow_mul-before-2 : goal.overflow_mul-before-2
overflow_mul-before-2 c = omega (arith, words_inside _ _ c.requires (c.args.run.count - 1) (omega (arith, c.if-count-eq0.false)))

pub overflow_add-before : goal.overflow_add-before
overflow_add-before c = omega (arith, words_inside _ _ c.requires (c.args.run.count - 1) (omega (arith, c.if-count-eq0.false)))

pub offset_bounds-blocks-b-2 : goal.offset_bounds-blocks-b-2
offset_bounds-blocks-b-2 c = omega (arith, words_inside _ _ c.requires (c.args.run.count - 1) (omega (arith, c.if-count-eq0.false)))

pub bounds-blocks-b-2 : goal.bounds-blocks-b-2
bounds-blocks-b-2 c = omega (arith, words_inside _ _ c.requires (c.args.run.count - 1) (omega (arith, c.if-count-eq0.false)))

pub overflow_add-before-2 : goal.overflow_add-before-2
overflow_add-before-2 c = omega (arith, behind-small _ _ c.requires (c.args.run.count - 1) (omega (arith, c.if-count-eq0.false)))

pub returns-then-before : goal.returns-then-before
returns-then-before c = record {
  placed = placed-last _ _ _ c.requires (omega (arith, c.if-before.true));
  by_index = λ m h. omega arith;
}

pub overflow_add-result : goal.overflow_add-result
overflow_add-result c = omega (arith, c.halve-found.ensures.by_index 64 (omega arith))

pub returns : goal.returns
returns c = record {
  placed = c.halve-found.ensures.placed;
  by_index = λ m h. omega (arith, c.halve-found.ensures.by_index m h);
}
