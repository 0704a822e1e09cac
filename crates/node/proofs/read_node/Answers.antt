-- Each test against its place in the walk of a node.
use mathlib.Core.Path.{◌≡◌, refl}
use Prim.Native.Nat.{ℕ}
use Rattle.format.specs.Bytes.{little_endian}
use Rattle.format.specs.Tree.{TREE}
use Rattle.node.proofs.NodeLaws.{node-refused, node-there, node-counted, signature-wrong, type-wrong, level-wrong, entries-wrong, node-read}
use native.Mathlib.Omega.{arith}
use Rattle.std.proofs.lemmas.Result.{err_from_is_err_and}
use Rattle.node.proofs.read_node.Goals as goal

-- the signature is the number of these four bytes
signed : (n : ℕ) → n ≡ 0x45455254 → n ≡ TREE
unfolding TREE little_endian
signed n e = e

pub returns-in_err-enter-clause-read : goal.returns-in_err-enter-clause-read
returns-in_err-enter-clause-read c =
    let p = err_from_is_err_and c.from_residual.result c.from_residual.ensures.1 in
    rw (p.1, p.2) (record {
      walked = node-refused c.args.group.now.image.now _ _ _ _ _ _ c.requires.lent _ c.enter.ensures.entered _ c.in_err-enter.ensures.value;
      fields = tt;
    })

pub u32_at-requires : goal.u32_at-requires
u32_at-requires c = omega (
  arith,
  node-there c.args.group.now.image.now _ _ _ _ _ _ c.requires.lent _ c.enter.ensures.entered _ c.in_ok-enter.ensures.value c.requires.end_of_file_in_bounds,
)

pub overflow_add-start : goal.overflow_add-start
overflow_add-start c = omega (
  arith,
  node-there c.args.group.now.image.now _ _ _ _ _ _ c.requires.lent _ c.enter.ensures.entered _ c.in_ok-enter.ensures.value c.requires.end_of_file_in_bounds,
)

pub bounds-image-start : goal.bounds-image-start
bounds-image-start c = omega (
  arith,
  node-there c.args.group.now.image.now _ _ _ _ _ _ c.requires.lent _ c.enter.ensures.entered _ c.in_ok-enter.ensures.value c.requires.end_of_file_in_bounds,
)

pub overflow_add-level : goal.overflow_add-level
overflow_add-level c = omega (
  arith,
  node-there c.args.group.now.image.now _ _ _ _ _ _ c.requires.lent _ c.enter.ensures.entered _ c.in_ok-enter.ensures.value c.requires.end_of_file_in_bounds,
)

pub bounds-image-start-2 : goal.bounds-image-start-2
bounds-image-start-2 c = omega (
  arith,
  node-there c.args.group.now.image.now _ _ _ _ _ _ c.requires.lent _ c.enter.ensures.entered _ c.in_ok-enter.ensures.value c.requires.end_of_file_in_bounds,
)

pub overflow_add-start-2 : goal.overflow_add-start-2
overflow_add-start-2 c = omega (
  arith,
  node-there c.args.group.now.image.now _ _ _ _ _ _ c.requires.lent _ c.enter.ensures.entered _ c.in_ok-enter.ensures.value c.requires.end_of_file_in_bounds,
)

pub u16_at-entries-requires : goal.u16_at-entries-requires
u16_at-entries-requires c = omega (
  arith,
  node-there c.args.group.now.image.now _ _ _ _ _ _ c.requires.lent _ c.enter.ensures.entered _ c.in_ok-enter.ensures.value c.requires.end_of_file_in_bounds,
)

pub returns-then-u32_at-ne-TREE-clause-read : goal.returns-then-u32_at-ne-TREE-clause-read
unfolding TREE little_endian
returns-then-u32_at-ne-TREE-clause-read c =
    record {
      walked = signature-wrong c.args.group.now.image.now _ _ _ _ _ _ c.requires.lent _ c.enter.ensures.entered _ c.in_ok-enter.ensures.value _
          c.u32_at.ensures c.if-u32_at-ne-TREE.true;
      fields = tt;
    }

pub returns-then-image-start-ne-GROUP-clause-read : goal.returns-then-image-start-ne-GROUP-clause-read
returns-then-image-start-ne-GROUP-clause-read c =
    record {
      walked = type-wrong c.args.group.now.image.now _ _ _ _ _ _ c.requires.lent _ c.enter.ensures.entered _ c.in_ok-enter.ensures.value _
          c.u32_at.ensures (signed _ c.if-u32_at-ne-TREE.false) c.if-image-start-ne-GROUP.true;
      fields = tt;
    }

pub returns-then-limits-level-clause-read : goal.returns-then-limits-level-clause-read
returns-then-limits-level-clause-read c =
    record {
      walked = level-wrong c.args.group.now.image.now _ _ _ _ _ _ c.requires.lent _ c.enter.ensures.entered _ c.in_ok-enter.ensures.value _
          c.u32_at.ensures (signed _ c.if-u32_at-ne-TREE.false) c.if-image-start-ne-GROUP.false
          (omega (arith, c.if-limits-level.true, c.the_limits-limits.ensures.level_most_equal));
      fields = tt;
    }

pub returns-then-k-entries-clause-read : goal.returns-then-k-entries-clause-read
returns-then-k-entries-clause-read c =
    record {
      walked = entries-wrong c.args.group.now.image.now _ _ _ _ _ _ c.requires.lent _ c.enter.ensures.entered _ c.in_ok-enter.ensures.value _
          c.u32_at.ensures (signed _ c.if-u32_at-ne-TREE.false) c.if-image-start-ne-GROUP.false
          (omega (arith, c.if-limits-level.false, c.the_limits-limits.ensures.level_most_equal)) _ c.u16_at-entries.ensures c.if-k-entries.true;
      fields = tt;
    }

pub returns-clause-read : goal.returns-clause-read
returns-clause-read c =
    record {
      walked = node-read c.args.group.now.image.now _ _ _ _ _ _ c.requires.lent _ c.enter.ensures.entered _ c.in_ok-enter.ensures.value _
          c.u32_at.ensures (signed _ c.if-u32_at-ne-TREE.false) c.if-image-start-ne-GROUP.false
          (omega (arith, c.if-limits-level.false, c.the_limits-limits.ensures.level_most_equal)) _ c.u16_at-entries.ensures c.if-k-entries.false;
      fields = (
        node-there c.args.group.now.image.now _ _ _ _ _ _ c.requires.lent _ c.enter.ensures.entered _ c.in_ok-enter.ensures.value
            c.requires.end_of_file_in_bounds,
        refl,
        c.u16_at-entries.ensures.value,
        c.if-k-entries.false,
        node-counted c.args.group.now.image.now _ _ _ _ _ _ c.requires.lent _ c.enter.ensures.entered _ c.in_ok-enter.ensures.value,
      );
    }
