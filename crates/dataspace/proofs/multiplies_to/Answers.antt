-- The whole product is the product so far times the sizes that are left; none of them is 0, so it only grows.
use Prim.Native.Nat.{ℕ, ◌+◌, ◌*◌, ◌<◌}
use mathlib.Core.List.{List}
use Rattle.walk.specs.Numbers.{Number}
use mathlib.Core.Path.{◌≡◌}
use mathlib.Core.Bool.{false}
use native.Mathlib.Nat.{mul_comm}
use lib.ListN.{drop}
use Rattle.format.specs.Bytes.{to_words, contains}
use Rattle.format.specs.Dataspace.{product}
use Rattle.dataspace.proofs.DataspaceLaws.{words_from, words-start, fills-larger, Turn, product-end, product-turn}
use native.Mathlib.Omega.{arith}
use Rattle.dataspace.proofs.multiplies_to.Goals as goal

turn : (b : List ℕ) (rank i size so_far stored s : ℕ) → contains 0 (words_from b 8 rank i) ≡ false →
    product (to_words rank (drop 8 b)) * size ≡ so_far * product (words_from b 8 rank i) → i < rank → Number b (8 + 8 * i) 8 s →
    Turn b rank i (product (to_words rank (drop 8 b)) * size) so_far stored s
turn b rank i size so_far stored s z e h n = product-turn b rank i _ so_far stored z e h n

pub returns-then-stored-element_size : goal.returns-then-stored-element_size
returns-then-stored-element_size c =
    let s = c in
    fills-larger _ s.args.element_size s.args.stored s.requires.nonzero c.if-stored-element_size.true

pub loop-i-init : goal.loop-i-init
loop-i-init c =
    let s = c in
    let w = words-start s.args.body.now 8 s.args.rank in
    (c.if-stored-element_size.false, rw (← w) s.requires.nonzero, rw (← w) (mul_comm _ _))

pub returns-then-stored-size : goal.returns-then-stored-size
returns-then-stored-size c =
    let t = turn _ _ _ c.args.element_size _ c.args.stored _ c.loop-i.invariant.1 c.loop-i.invariant.2 c.loop-i-test.true c.u64_at-size.ensures in
    t.above c.if-stored-size.true

pub nonzero_div-stored : goal.nonzero_div-stored
nonzero_div-stored c =
    let t = turn _ _ _ c.args.element_size _ c.args.stored _ c.loop-i.invariant.1 c.loop-i.invariant.2 c.loop-i-test.true c.u64_at-size.ensures in
    omega (arith, t.least)

pub overflow_mul-so_far : goal.overflow_mul-so_far
overflow_mul-so_far c =
    let t = turn _ _ _ c.args.element_size _ c.args.stored _ c.loop-i.invariant.1 c.loop-i.invariant.2 c.loop-i-test.true c.u64_at-size.ensures in
    omega (arith, t.within c.if-stored-size.false, c.ranges.stored)

pub loop-i-preserved : goal.loop-i-preserved
loop-i-preserved c =
    let t = turn _ _ _ c.args.element_size _ c.args.stored _ c.loop-i.invariant.1 c.loop-i.invariant.2 c.loop-i-test.true c.u64_at-size.ensures in
    (t.within c.if-stored-size.false, t.nonzero, t.next)

pub returns : goal.returns
returns c =
    let s = c in
    let a = s.args in
    product-end a.body.now a.rank s.loop-i.i _ _ a.stored s.loop-i.invariant.1 s.loop-i.invariant.2 c.loop-i-test.false
