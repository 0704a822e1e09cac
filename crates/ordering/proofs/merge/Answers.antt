-- The numbers that are not left stand where they belong; each turn places one of the second run and what stands behind it of the first.
use Prim.Native.Nat.{◌+◌, ◌-◌}
use mathlib.Core.Path.{◌≡◌}
use Rattle.ordering.proofs.MergeLaws.{merging-none, merging-all, merging-more, place_read, place-low, second-small}
use native.Mathlib.Omega.{arith}
use Rattle.ordering.proofs.merge.Goals as goal

pub loop-k-init : goal.loop-k-init
loop-k-init c = merging-none c.requires

pub overflow_add-runs : goal.overflow_add-runs
overflow_add-runs c = omega (arith, place-low c.requires c.loop-k.invariant (omega arith))

pub raise-requires : goal.raise-requires
raise-requires c = record {
  first_le_last = omega (arith, place-low c.requires c.loop-k.invariant (omega arith));
  by_in_bounds = omega arith;
}

pub overflow_add-words-in-loop-k : goal.overflow_add-words-in-loop-k
overflow_add-words-in-loop-k c =
    let held = c.requires in
    let inv = c.loop-k.invariant in
    let e : c.loop-k.k - 1 + 1 ≡ c.loop-k.k = omega arith in
    omega (arith, second-small held inv (omega arith) (place_read held inv (omega arith)) (rw e at c.raise.ensures))

pub overflow_add-words-in-loop-k-2 : goal.overflow_add-words-in-loop-k-2
overflow_add-words-in-loop-k-2 c = omega (arith, place-low c.requires c.loop-k.invariant (omega arith))

pub overflow_add-words-in-loop-k-3 : goal.overflow_add-words-in-loop-k-3
overflow_add-words-in-loop-k-3 c = omega (arith, place-low c.requires c.loop-k.invariant (omega arith))

pub offset_bounds-words-runs-in-loop-k-2 : goal.offset_bounds-words-runs-in-loop-k-2
offset_bounds-words-runs-in-loop-k-2 c = omega (arith, place-low c.requires c.loop-k.invariant (omega arith))

pub bounds-words-runs-in-loop-k-2 : goal.bounds-words-runs-in-loop-k-2
bounds-words-runs-in-loop-k-2 c =
    omega (arith, place-low c.requires c.loop-k.invariant (omega arith), c.raise.ensures.long)

pub loop-k-preserved : goal.loop-k-preserved
loop-k-preserved c =
    let held = c.requires in
    let inv = c.loop-k.invariant in
    let e : c.loop-k.k - 1 + 1 ≡ c.loop-k.k = omega arith in
    merging-more held inv (omega arith) (place_read held inv (omega arith)) (rw e at c.raise.ensures)

pub returns : goal.returns
returns c =
    let l = c.loop-k in
    let e : l.k ≡ 0 = omega arith in
    merging-all c.requires (rw e at l.invariant)
