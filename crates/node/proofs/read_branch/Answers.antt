-- The node, then its level, its entries and its keys.
use mathlib.Core.List.{[]}
use mathlib.Core.Path.{refl, sym}
use Prim.Native.Nat.{◌+◌, ◌*◌}
use Rattle.heap.specs.Segment.{heap_with}
use Rattle.key.proofs.KeyLaws.{keys-sound}
use Rattle.node.proofs.NodeLaws.{branch-stopped, own-level-wrong, empty-node, keys-wrong, branch_read}
use native.Mathlib.Omega.{arith}
use Rattle.std.proofs.lemmas.Result.{err_from_is_err_and}
use Rattle.node.proofs.read_branch.Goals as goal

pub returns-in_err-node-clause-read : goal.returns-in_err-node-clause-read
returns-in_err-node-clause-read c =
    let p = err_from_is_err_and c.from_residual.result c.from_residual.ensures.1 in
    rw (p.1, p.2) (record {
      walked = λ h e. branch-stopped c.args.group.now.image.now _ _ _ _ _ _ _ h c.requires.lent _ _ c.in_err-node.ensures.read.walked;
      fields = tt;
    })

pub returns-then-own-level-clause-read : goal.returns-then-own-level-clause-read
returns-then-own-level-clause-read c =
    record {
      walked = λ h e. own-level-wrong c.args.group.now.image.now _ _ _ _ _ _ _ h c.requires.lent _ _ c.in_ok-node.ensures.kept.long
          c.in_ok-node.ensures.read.walked _ c.in_ok-node.ensures.read.fields.1 c.if-own-level.true;
      fields = tt;
    }

pub returns-then-entries-lt-FEWEST-clause-read : goal.returns-then-entries-lt-FEWEST-clause-read
returns-then-entries-lt-FEWEST-clause-read c =
    record {
      walked = λ h e. empty-node c.args.group.now.image.now _ _ _ _ _ _ _ h c.requires.lent _ _ c.in_ok-node.ensures.kept.long
          c.in_ok-node.ensures.read.walked _ c.in_ok-node.ensures.read.fields.1
          c.if-own-level.false _ c.in_ok-node.ensures.read.fields.2 c.if-entries-lt-FEWEST.true;
      fields = tt;
    }

pub returns-in_err-check_keys-clause-read : goal.returns-in_err-check_keys-clause-read
returns-in_err-check_keys-clause-read c =
    let p = err_from_is_err_and c.from_residual-in_err-check_keys.result c.from_residual-in_err-check_keys.ensures.1 in
    let f = c.in_ok-node.ensures.read.fields in
    rw (p.1, p.2) (record {
      walked = λ h e. keys-wrong c.args.group.now.image.now _ _ _ _ _ _ _ h c.requires.lent _ _ c.in_ok-node.ensures.kept.long
          c.in_ok-node.ensures.read.walked _ c.in_ok-node.ensures.read.fields.1
          c.if-own-level.false _ f.2 c.if-entries-lt-FEWEST.false _
          (c.in_err-check_keys.ensures h (8 + 32 * c.args.group.now.internal_k) e (omega (arith, f.3)) (omega (arith, f.0)));
      fields = tt;
    })

pub returns-clause-read : goal.returns-clause-read
returns-clause-read c =
    let f = c.in_ok-node.ensures.read.fields in
    let g = c.args.group.now in
    let k = 8 + 32 * g.internal_k in
    record {
      walked = λ h e. branch_read c.args.group.now.image.now _ _ _ _ _ _ _ h c.requires.lent _ _ c.in_ok-node.ensures.kept.long
          c.in_ok-node.ensures.read.walked _ c.in_ok-node.ensures.read.fields.1
          c.if-own-level.false _ f.2 c.if-entries-lt-FEWEST.false (c.in_ok-check_keys.ensures h k e (omega (arith, f.3)) (omega (arith, f.0)));
      fields = (
        f.0,
        f.2,
        f.3,
        f.4,
        keys-sound (heap_with g.strings.segment.now []) g.image.now g.strings.segment.now (c.in_ok-node.node.entries + 1) (c.args.at + 24) k
            (sym (c.in_ok-check_keys.ensures (heap_with g.strings.segment.now []) k refl (omega (arith, f.3)) (omega (arith, f.0)))) refl
            (omega (arith, f.3)) (omega (arith, f.0)),
      );
    }
