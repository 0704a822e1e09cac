-- Of the blocks looked at the least number is known; those that are left begin at the end or behind it, or are looked at next.
use Rattle.block_index.proofs.MetLaws.{lowest-none, lowest-kept, lowest-new, lowest-all, lowest-next}
use native.Mathlib.Omega.{arith}
use Rattle.block_index.proofs.met.least_met.Goals as goal
use Rattle.block_index.proofs.met.least_met.Goals.{then-b-low, else-b-low}

pub loop-k-init : goal.loop-k-init
loop-k-init c = lowest-none _ _ _ _ _

pub overflow_add-b-in-loop-k : goal.overflow_add-b-in-loop-k
overflow_add-b-in-loop-k c =
    let s = c in
    omega (arith, s.requires.listed, s.requires.ordering.within c.loop-k.k (omega arith))

pub overflow_mul-b : goal.overflow_mul-b
overflow_mul-b c =
    let s = c in
    omega (arith, s.requires.listed, s.requires.ordering.within c.loop-k.k (omega arith))

pub offset_bounds-blocks-b : goal.offset_bounds-blocks-b
offset_bounds-blocks-b c =
    let s = c in
    omega (arith, s.requires.listed, s.requires.ordering.within c.loop-k.k (omega arith))

pub bounds-blocks-b : goal.bounds-blocks-b
bounds-blocks-b c =
    let s = c in
    omega (arith, s.requires.listed, s.requires.ordering.within c.loop-k.k (omega arith))

pub returns-then-end-blocks : goal.returns-then-end-blocks
returns-then-end-blocks c =
    let i = c in
    lowest-next _ _ _ _ _ _ _ i.loop-k.invariant i.requires (omega arith) c.if-end-blocks.true

pub loop-k-preserved : goal.loop-k-preserved
loop-k-preserved c =
    let i = c in
    let v = i.loop-k.invariant in
    elim c.if-b-low.branch [
      | then-b-low w ↦ rw w.low-is (lowest-new _ _ _ _ _ _ _ v (omega arith) w.if-b-low.true (omega (arith, c.if-end-blocks.false)))
      | else-b-low w ↦ rw w.low-is (lowest-kept _ _ _ _ _ _ _ v (omega (arith, w.if-b-low.false)))
    ]

pub returns : goal.returns
returns c = lowest-all _ _ _ _ _ _ _ c.loop-k.invariant c.requires (omega arith)
