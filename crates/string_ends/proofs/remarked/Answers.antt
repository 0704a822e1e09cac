-- A number that stays, or one that is made of the free bytes at the cell's start.
use Rattle.string_ends.proofs.NumberLaws.{start-most, remarked-both, remarked-whole, remarked-true, remarked-false}
use native.Mathlib.Omega.{arith}
use Rattle.string_ends.proofs.remarked.Goals as goal

pub returns-then-v-ge33 : goal.returns-then-v-ge33
returns-then-v-ge33 c = remarked-both c.args.v c.args.ends (omega arith)

pub returns-then-start-eq16 : goal.returns-then-start-eq16
returns-then-start-eq16 c =
    let a = c.args in
    remarked-whole a.v a.ends (omega (arith, c.free_start-start.ensures))

pub overflow_add-result : goal.overflow_add-result
overflow_add-result c =
    let made = c.free_start-start in
    omega (arith, made.ensures, start-most c.args.v (omega arith))

pub returns-then-ends : goal.returns-then-ends
returns-then-ends c =
    let made = c.free_start-start in
    let v = c.args.v in
    rw (c.if-ends.true, made.ensures) (remarked-true v (omega arith) (λ e. omega (arith, made.ensures)))

pub returns : goal.returns
returns c =
    let made = c.free_start-start in
    let v = c.args.v in
    rw (c.if-ends.false, made.ensures) (remarked-false v (omega arith) (λ e. omega (arith, made.ensures)))
