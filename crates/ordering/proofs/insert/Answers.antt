-- The words from i on have moved.
use Prim.Native.Nat.{◌+◌, ◌-◌}
use mathlib.Core.Path.{◌≡◌}
use Rattle.ordering.proofs.OrderLaws.{moved_none, moved_more, moved_in}
use borrow.Author.Rules.{rules}
use lib.ListN.{length}
use native.Mathlib.Omega.{arith}
use Rattle.ordering.proofs.insert.Goals as goal

pub loop-i-init : goal.loop-i-init
loop-i-init c = (omega arith, omega arith, moved_none _ _)

pub bounds-words-i : goal.bounds-words-i
bounds-words-i c = omega (arith, c.loop-i.invariant.2.long)

pub bounds-words-i-in-loop-i : goal.bounds-words-i-in-loop-i
bounds-words-i-in-loop-i c = omega (arith, c.loop-i.invariant.2.long)

pub loop-i-preserved : goal.loop-i-preserved
loop-i-preserved c =
    let l = c.loop-i in
    let e : l.i - 1 + 1 ≡ l.i = omega arith in
    rw e (omega arith, omega arith, moved_more _ l.words _ l.i (omega arith) (omega arith) l.invariant.2 (omega arith))

pub bounds-words-place : goal.bounds-words-place
bounds-words-place c = omega (arith, c.loop-i.invariant.2.long)

pub shape_of-words : goal.shape_of-words
shape_of-words c = search (rules, c.loop-i.invariant.2.long)

pub returns : goal.returns
returns c =
    let l = c.loop-i in
    let a = c.args in
    let e : l.i ≡ a.place = omega arith in
    rw e at (moved_in _ l.words _ l.i (omega arith) (omega arith) l.invariant.2 0 (length a.words.now - 1) a.place a.value (omega arith) (omega arith))
