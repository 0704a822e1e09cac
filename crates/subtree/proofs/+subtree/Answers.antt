-- At height 0 a symbol table node; above it a node whose children are walked one after the other.
use Prim.Native.Nat.{suc, ◌+◌, ◌-◌, ◌*◌}
use mathlib.Core.List.{List, [], ◌∷◌}
use mathlib.Core.Path.{◌≡◌, refl}
use native.Mathlib.Omega.{arith}
use Rattle.format.specs.Names.{Bound}
use Rattle.laws.proofs.Simulation.{same-walk, returned, callee-done, callee-stopped}
use Rattle.symbol.specs.Entry.{group_of, state_of}
use Rattle.subtree.proofs.SubtreeLaws.{keys_at, children-end, children-here, node-stopped, node_done, leaf_walked, sound_more, words-kept}
use Rattle.std.proofs.lemmas.Result.{err_from_is_err_and}
use Rattle.subtree.proofs.+subtree.Goals as goal

pub returns-then-top-eq0-clause-read : goal.returns-then-top-eq0-clause-read
returns-then-top-eq0-clause-read g t c = record {
  walked = λ bounds h. leaf_walked _ _ _ _ _ _ _ _ bounds _ _ _ c.if-top-eq0.true (c.symbol_node.ensures.read.walked bounds h);
  sound = c.symbol_node.ensures.read.sound;
}

pub returns-in_err-entries-clause-read : goal.returns-in_err-entries-clause-read
returns-in_err-entries-clause-read g t c =
    let group = c.args.group.now in
    let defined = group_of group.strings.segment.now (g.V.Visitor.visit c.args.visitor.now) group in
    let p = err_from_is_err_and c.from_residual.result c.from_residual.ensures.1 in
    let above : c.args.top.height ≡ suc (c.args.top.height - 1) = omega (arith, c.if-top-eq0.false) in
    rw (p.1, p.2) (record {
      walked = λ bounds h.
          node-stopped _ _ _ _ _ c.requires.descending.sound.lent defined _ refl _ _ _ above bounds _ _ _
          (c.in_err-entries.ensures.read.walked defined.heap refl);
      sound = tt;
    })

-- where the loop begins, the walk has come to the children
pub loop-i-init : goal.loop-i-init
loop-i-init g t c =
    let group = c.args.group.now in
    let seg = group.strings.segment.now in
    let sound = c.requires.descending.sound in
    let defined = group_of seg (g.V.Visitor.visit c.args.visitor.now) group in
    let above : c.args.top.height ≡ suc (c.args.top.height - 1) = omega (arith, c.if-top-eq0.false) in
    let b = c.in_ok-entries.ensures in
    let m = λ (bounds : List Bound).
    node_done group.image.now _ _ _ _ sound.lent defined _ refl _ _ _ above bounds
    (state_of seg c.args.range.now.last (g.V.Visitor.found c.args.visitor.now)) _ _ _ b.kept.long b.read.fields.1 (b.read.walked defined.heap refl) in (
      record {
        sound = sound_more _ _ group _ _ _ _ _ sound (m []).lent (m []).blocks;
        walk = λ bounds h. m bounds;
        words = b.kept;
      },
      c.requires.ready,
      g.met.V.Visitor.same_reflexive _,
    )

pub child_range-inner-requires-clause-key_at_2 : goal.child_range-inner-requires-clause-key_at_2
child_range-inner-requires-clause-key_at_2 g t c =
    let i = c.loop-i.i in
    let e : c.args.top.at + 24 + 16 * (i + 1) ≡ c.args.top.at + 24 + 16 * i + 16 = omega arith in
    rw e at (c.in_ok-entries.ensures.read.fields.4 (i + 1) (omega (arith, c.loop-i-test.true)))

pub returns-in_err-last-clause-read : goal.returns-in_err-last-clause-read
returns-in_err-last-clause-read g t c =
    let a = c.args in
    let group = a.group.now in
    let seg = group.strings.segment.now in
    let p = err_from_is_err_and c.from_residual-in_err-last.result c.from_residual-in_err-last.ensures.1 in
    let e = g.met.V.Visitor.same_visit _ _ c.loop-i.invariant.2 in
    let read = rw e at c.in_err-last.ensures.read in
    rw (p.1, p.2) (record {
      walked = λ bounds h.
          callee-stopped _ _ _
          (children-here (group_of seg (g.V.Visitor.visit a.visitor.now) group) (a.top.height - 1) group.image.now (a.top.at + 24)
          (8 + 32 * group.internal_k) c.in_ok-entries.entries bounds c.loop-i.i _ c.loop-i-test.true
          (omega (arith, c.in_ok-entries.ensures.read.fields.2)) _ c.u64_at.ensures.value (c.loop-i.invariant.0.walk bounds h))
          (read.walked (keys_at group.image.now seg (a.top.at + 24 + 16 * c.loop-i.i) ∷ bounds) (c.child_range-inner.ensures.tight bounds h));
      sound = tt;
    })

pub loop-i-preserved : goal.loop-i-preserved
loop-i-preserved g t c =
    let a = c.args in
    let group = a.group.now in
    let seg = group.strings.segment.now in
    let turn = c.in_ok-last.ensures in
    let before = c.loop-i.invariant.0 in
    let e = g.met.V.Visitor.same_visit _ _ c.loop-i.invariant.2 in
    let read = rw e at turn.read in (
      record {
        sound = read.sound;
        walk = λ bounds h.
            callee-done _ _ _
            (children-here (group_of seg (g.V.Visitor.visit a.visitor.now) group) (a.top.height - 1) group.image.now (a.top.at + 24)
            (8 + 32 * group.internal_k) c.in_ok-entries.entries bounds c.loop-i.i _ c.loop-i-test.true
            (omega (arith, c.in_ok-entries.ensures.read.fields.2)) _ c.u64_at.ensures.value (before.walk bounds h))
            turn.kept.long
            (read.walked (keys_at group.image.now seg (a.top.at + 24 + 16 * c.loop-i.i) ∷ bounds) (c.child_range-inner.ensures.tight bounds h));
        words = words-kept before.words turn.kept;
      },
      turn.ready,
      g.met.V.Visitor.same_transitive _ _ _ c.loop-i.invariant.2 turn.same,
    )

pub returns-clause-read : goal.returns-clause-read
returns-clause-read g t c = record {
  walked = λ bounds h. returned (same-walk _ (children-end _ _ _ _ _ _ bounds _ _ c.loop-i-test.false) (c.loop-i.invariant.0.walk bounds h));
  sound = c.loop-i.invariant.0.sound;
}
