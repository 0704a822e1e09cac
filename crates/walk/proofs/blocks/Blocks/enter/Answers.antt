-- Each return rewrites with the answer that the tests before it lead to.
use Prim.Native.Nat.{◌+◌, ◌≤◌, ◌<◌}
use mathlib.Core.Path.{◌≡◌, sym}
use mathlib.Core.Bool.{false}
use lib.ListN.{length}
use Rattle.format.specs.Blocks.{overlaps_any}
use Rattle.walk.specs.Lent.{blocks_of}
use Rattle.walk.proofs.BlockList.{length-blocks_of, entry_answer-outside, entry_answer-overlap, entry_answer-full, entry_answer-open}
use Rattle.walk.proofs.Entering.{addable, put}
use Rattle.walk.proofs.Verdict.{all_apart, met-first}
use native.Mathlib.Omega.{arith}
use Rattle.walk.proofs.blocks.Blocks.enter.Goals as goal

pub returns-then-bounds-at-clause-value : goal.returns-then-bounds-at-clause-value
returns-then-bounds-at-clause-value c =
    let a = c.args in
    let h : a.bounds.end_of_file < a.at + a.size = omega arith in
    rw (entry_answer-outside, c.outside.ensures)

pub returns-then-bounds-at-clause-entered : goal.returns-then-bounds-at-clause-entered
returns-then-bounds-at-clause-entered c =
    let a = c.args in
    let h : a.bounds.end_of_file < a.at + a.size = omega arith in
    rw entry_answer-outside

pub returns-then-bounds-at-2-clause-value : goal.returns-then-bounds-at-2-clause-value
returns-then-bounds-at-2-clause-value c =
    let a = c.args in
    let h : a.bounds.end_of_file < a.at + a.size = omega arith in
    rw (entry_answer-outside, c.outside-then-bounds-at-2.ensures)

pub returns-then-bounds-at-2-clause-entered : goal.returns-then-bounds-at-2-clause-entered
returns-then-bounds-at-2-clause-entered c =
    let a = c.args in
    let h : a.bounds.end_of_file < a.at + a.size = omega arith in
    rw entry_answer-outside

pub returns-then-found-clause-value : goal.returns-then-found-clause-value
returns-then-found-clause-value c =
    let a = c.args in
    let b = a.self.now in
    let l = c.list-then-found.ensures in
    let k = met-first a.at a.size b.count b.words.now _ (rw (l.words, l.count) at c.first_met-b.ensures) in
    let h : a.at + a.size ≤ a.bounds.end_of_file = omega (arith, c.if-bounds-at-2.false, c.if-bounds-at.false) in
    rw (entry_answer-overlap _ _ _ _ _ h (sym k.0), c.not_entered.ensures, k.1)

pub returns-then-found-clause-entered : goal.returns-then-found-clause-entered
returns-then-found-clause-entered c =
    let a = c.args in
    let b = a.self.now in
    let l = c.list-then-found.ensures in
    let k = met-first a.at a.size b.count b.words.now _ (rw (l.words, l.count) at c.first_met-b.ensures) in
    let h : a.at + a.size ≤ a.bounds.end_of_file = omega (arith, c.if-bounds-at-2.false, c.if-bounds-at.false) in
    rw (entry_answer-overlap _ _ _ _ _ h (sym k.0))

-- there is no room for the block, which meets none
full : (c : goal.After-not_entered-then-bounds-count) →
    let a = c.args in
    let b = a.self.now in
    (a.at + a.size ≤ a.bounds.end_of_file) × (false ≡ overlaps_any (blocks_of b.count b.words.now) a.at a.size)
    × (a.bounds.room ≤ length (blocks_of b.count b.words.now))
full c =
    let a = c.args in
    let b = a.self.now in (
      omega (arith, c.if-bounds-at-2.false, c.if-bounds-at.false),
      sym (all_apart a.at a.size b.count b.words.now ((rw (c.list.ensures.words, c.list.ensures.count) at c.find-found.ensures).apart c.if-found.false)),
      rw length-blocks_of (omega (arith, c.if-bounds-count.true)),
    )

pub returns-then-bounds-count-clause-value : goal.returns-then-bounds-count-clause-value
returns-then-bounds-count-clause-value c =
    let f = full c in
    let h = f.0 in
    let k = f.1 in
    let l = f.2 in
    rw (entry_answer-full, c.not_entered-then-bounds-count.ensures)

pub returns-then-bounds-count-clause-entered : goal.returns-then-bounds-count-clause-entered
returns-then-bounds-count-clause-entered c =
    let f = full c in
    let h = f.0 in
    let k = f.1 in
    let l = f.2 in
    rw entry_answer-full

pub add-requires : goal.add-requires
add-requires c =
    let a = c.args in
    let b = a.self.now in
    let l = c.list.ensures in
    rw c.append.ensures.written
    (addable b.words.now b.count a.bounds.room a.kind a.at a.size c.requires (omega (arith, c.if-bounds-count.false))
    (omega (arith, c.if-bounds-at-2.false, c.if-bounds-at.false)) c.find-found.result (rw (l.words, l.count) at c.find-found.ensures) c.if-found.false)

-- there is room, and the block meets none
roomy : (c : goal.After-self-1) →
    let a = c.args in
    let b = a.self.now in
    (a.at + a.size ≤ a.bounds.end_of_file) × (false ≡ overlaps_any (blocks_of b.count b.words.now) a.at a.size)
    × (length (blocks_of b.count b.words.now) < a.bounds.room)
roomy c =
    let a = c.args in
    let b = a.self.now in (
      omega (arith, c.if-bounds-at-2.false, c.if-bounds-at.false),
      sym (all_apart a.at a.size b.count b.words.now ((rw (c.list.ensures.words, c.list.ensures.count) at c.find-found.ensures).apart c.if-found.false)),
      rw length-blocks_of (omega (arith, c.if-bounds-count.false)),
    )

pub returns-clause-value : goal.returns-clause-value
returns-clause-value c =
    let f = roomy c in
    let h = f.0 in
    let k = f.1 in
    let l = f.2 in
    rw entry_answer-open

pub returns-clause-entered : goal.returns-clause-entered
returns-clause-entered c =
    let a = c.args in
    let b = a.self.now in
    let f = roomy c in
    let h = f.0 in
    let k = f.1 in
    let l = f.2 in
    rw entry_answer-open (put b.words.now b.count a.bounds.room a.kind a.at a.size c.requires (omega (arith, c.if-bounds-count.false)) _
    (rw c.append.ensures.written at c.add.ensures))
