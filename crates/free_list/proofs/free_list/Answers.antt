-- The fuel of the definition is what is left of the segment's length; each turn is one block, which the map then has.
use mathlib.Core.Path.{refl, sym, ◌∙◌}
use borrow.Author.Tests.{eq-eqb, ne_eqb}
use Rattle.format.specs.Bytes.{undefined_address}
use Rattle.free_list.specs.FreeBlocks.{chain}
use Rattle.free_list.proofs.FreeLaws.{none-held, free-none, free-undefined, free-start}
use Rattle.free_list.proofs.FreeLaws.{block-unsound, block_inside, block_held, block-spanned, block_last, block_more, free-long}
use native.Mathlib.Omega.{arith}
use Rattle.free_list.proofs.free_list.Goals as goal
use Rattle.free_list.proofs.free_list.Goals.{then-head-eq1-via-then-head-eq1, then-head-eq1-via-else-head-eq1+then-head-eq-UNDEFINED_ADDRESS}

pub returns-then-head-eq1 : goal.returns-then-head-eq1
unfolding chain undefined_address
returns-then-head-eq1 c =
    let head = c.args.head in record {
      value = elim c.then-head-eq1.branch [
        | then-head-eq1-via-then-head-eq1 w ↦ free-none _ _ (eq-eqb head 1 (omega arith))
        | then-head-eq1-via-else-head-eq1+then-head-eq-UNDEFINED_ADDRESS w ↦
            free-undefined _ _ (ne_eqb head 1 (λ e. omega arith)) (eq-eqb head undefined_address (omega arith))
      ];
      held = none-held c.requires.zeros;
      long = refl;
    }

pub loop-count-init : goal.loop-count-init
unfolding undefined_address chain
loop-count-init c =
    let a = c.args in (
      free-start a.segment.now a.map.now a.head (ne_eqb a.head 1 (λ e. omega arith)) (ne_eqb a.head undefined_address (λ e. omega arith))
          c.requires.zeros,
      refl,
      tt,
    )

pub add_block-requires : goal.add_block-requires
add_block-requires c =
    let l = c.loop-count in
    record {
      segment_len_bound = λ h. omega (arith, l.invariant.1, c.requires.long (omega (arith, l.invariant.1)));
      held = l.invariant.0.held;
      spanned = l.invariant.2;
    }

pub returns-then-not-add_block : goal.returns-then-not-add_block
returns-then-not-add_block c =
    let l = c.loop-count in
    let t = c.add_block.ensures in
    record { value = block-unsound l.invariant.0 t (omega arith) c.if-not-add_block.true; held = tt; long = t.long ∙ l.invariant.1 }

-- the block lies in the segment
pub overflow_add-off : goal.overflow_add-off
overflow_add-off c = omega (arith, (block_inside c.loop-count.invariant.0 c.add_block.ensures (omega arith) c.if-not-add_block.false).0)

pub u64_at-requires : goal.u64_at-requires
u64_at-requires c = omega (arith, (block_inside c.loop-count.invariant.0 c.add_block.ensures (omega arith) c.if-not-add_block.false).0)

pub widened-span-requires : goal.widened-span-requires
widened-span-requires c =
    omega (
      arith,
      (block_inside c.loop-count.invariant.0 c.add_block.ensures (omega arith) c.if-not-add_block.false).1,
      c.u64_at.ensures.value,
    )

pub u64_at-next-requires : goal.u64_at-next-requires
u64_at-next-requires c = omega (arith, (block_inside c.loop-count.invariant.0 c.add_block.ensures (omega arith) c.if-not-add_block.false).0)

pub returns-then-next-eq1 : goal.returns-then-next-eq1
returns-then-next-eq1 c =
    let l = c.loop-count in
    let t = c.add_block.ensures in
    let s = c.if-not-add_block.false in record {
      value = block_last l.invariant.0 t (omega arith) s (sym c.u64_at-next.ensures.value ∙ c.if-next-eq1.true);
      held = block_held l.invariant.0 t (omega arith) s;
      long = t.long ∙ l.invariant.1;
    }

pub loop-count-preserved : goal.loop-count-preserved
loop-count-preserved c =
    let l = c.loop-count in
    let t = c.add_block.ensures in (
      block_more l.invariant.0 t (omega arith) c.if-not-add_block.false c.u64_at-next.ensures.value c.if-next-eq1.false,
      t.long ∙ l.invariant.1,
      block-spanned l.invariant.0 t (omega arith) l.invariant.2 c.u64_at.ensures.value c.widened-span.ensures,
    )

pub returns : goal.returns
returns c = record { value = free-long c.loop-count.invariant.0 (omega arith); held = tt; long = c.loop-count.invariant.1 }
