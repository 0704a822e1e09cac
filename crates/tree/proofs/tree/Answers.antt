-- A root with entries is a subtree; an empty one has level 0.
use mathlib.Core.List.{[]}
use mathlib.Core.Path.{◌≡◌, refl, sym}
use Prim.Native.Nat.{◌+◌}
use Rattle.format.specs.Bytes.{u16}
use Rattle.symbol.specs.Entry.{group_of, state_of}
use Rattle.subtree.proofs.SubtreeLaws.{sound_more}
use Rattle.tree.proofs.TreeLaws.{no-bounds, root-used, root-stopped, root-empty, empty-level-wrong, empty-read}
use native.Mathlib.Omega.{arith}
use Rattle.std.proofs.lemmas.Result.{err_from_is_err_and}
use Rattle.tree.proofs.tree.Goals as goal

pub returns-then-height-ne0-clause-read : goal.returns-then-height-ne0-clause-read
returns-then-height-ne0-clause-read g c =
    let group = c.args.group.now in
    let seg = group.strings.segment.now in
    let u = c.root_height-height.ensures.used c.if-height-ne0.true in
    record {
      walked = rw (root-used group.image.now (group_of seg (g.V.Visitor.visit c.args.visitor.now) group) c.args.at _ _ _ _ u.0, sym u.1)
          (c.subtree.ensures.read.walked [] (no-bounds seg));
      sound = c.subtree.ensures.read.sound;
    }

pub returns-then-inner-clause-read : goal.returns-then-inner-clause-read
returns-then-inner-clause-read g c =
    let group = c.args.group.now in
    let r = c.in_ok-root.ensures.read in
    let no-entries : u16 group.image.now (c.args.at + 6) ≡ 0 = c.root_height-height.ensures.empty c.if-height-ne0.false (omega (arith, r.fields.0)) in
    record {
      walked = empty-level-wrong group.image.now (group_of group.strings.segment.now (g.V.Visitor.visit c.args.visitor.now) group) c.args.at _ _ _ _ _
          c.requires.sound.lent _ refl _ _ c.in_ok-root.ensures.kept.long no-entries r.walked _ r.fields.1 c.if-inner.true;
      sound = tt;
    }

pub returns-in_err-root-clause-read : goal.returns-in_err-root-clause-read
returns-in_err-root-clause-read g c =
    let group = c.args.group.now in
    let p = err_from_is_err_and c.from_residual.result c.from_residual.ensures.1 in
    rw (p.1, p.2) (record {
      walked = root-stopped group.image.now (group_of group.strings.segment.now (g.V.Visitor.visit c.args.visitor.now) group) c.args.at _ _ _ _ _
          c.requires.sound.lent _ refl _ _ c.in_err-root.ensures.read.walked;
      sound = tt;
    })

pub returns-clause-read : goal.returns-clause-read
returns-clause-read g c =
    let group = c.args.group.now in
    let defined = group_of group.strings.segment.now (g.V.Visitor.visit c.args.visitor.now) group in
    let r = c.in_ok-root.ensures.read in
    let same = c.in_ok-root.ensures.kept.long in
    let no-entries : u16 group.image.now (c.args.at + 6) ≡ 0 = c.root_height-height.ensures.empty c.if-height-ne0.false (omega (arith, r.fields.0)) in
    let state = state_of group.strings.segment.now c.args.last (g.V.Visitor.found c.args.visitor.now) in
    let m = root-empty group.image.now defined c.args.at state _ _ _ _ c.requires.sound.lent _ refl _ _ same no-entries r.walked in
    record {
      walked = empty-read group.image.now defined c.args.at state _ _ _ _ c.requires.sound.lent _ refl _ _ same no-entries r.walked _ r.fields.1
          c.if-inner.false;
      sound = sound_more _ _ group _ _ _ _ _ c.requires.sound m.lent m.blocks;
    }
