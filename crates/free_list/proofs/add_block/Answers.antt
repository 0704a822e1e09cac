-- The first test that fails decides; a block that passes them is added.
use mathlib.Core.Bool.{not}
use mathlib.Core.Path.{refl, sym, ap, ◌∙◌}
use Rattle.free_list.proofs.BlockLaws.{fields-outside, too_small, block-outside, overlap-decides, not-added, was-added}
use native.Mathlib.Omega.{arith}
use Rattle.free_list.proofs.add_block.Goals as goal

pub returns-then-segment-lt16 : goal.returns-then-segment-lt16
returns-then-segment-lt16 c = let a = c.args in not-added (fields-outside a.met.segment.now a.at (omega arith) _)

pub returns-then-last-at : goal.returns-then-last-at
returns-then-last-at c = let a = c.args in not-added (fields-outside a.met.segment.now a.at (omega arith) _)

pub returns-then-size-lt16 : goal.returns-then-size-lt16
returns-then-size-lt16 c =
    let u = c.u64_at-size in
    let a = c.args in
    not-added (too_small a.met.segment.now a.at u.result (omega arith) u.ensures.value (omega arith) _)

pub returns-then-segment-at : goal.returns-then-segment-at
returns-then-segment-at c =
    let u = c.u64_at-size in
    let a = c.args in
    not-added (block-outside a.met.segment.now a.at u.result (omega arith) u.ensures.value (omega arith) (omega arith) _)

pub meets_block-requires : goal.meets_block-requires
meets_block-requires c =
    record {
      held = c.requires.held;
      spanned = c.requires.spanned;
      size_nonzero = omega arith;
      size_in_bounds = omega arith;
    }

pub returns-then-meets_block : goal.returns-then-meets_block
returns-then-meets_block c =
    let u = c.u64_at-size in
    let a = c.args in
    not-added (sym (ap not c.if-meets_block.true)
    ∙ overlap-decides a.met.segment.now a.at u.result (omega arith) u.ensures.value (omega arith) (omega arith) _ c.meets_block.ensures)

pub returns-then-map-eq0 : goal.returns-then-map-eq0
returns-then-map-eq0 c =
    let u = c.u64_at-size in
    let a = c.args in
    was-added u.result u.ensures.value refl
    (sym (ap not c.if-meets_block.false)
    ∙ overlap-decides a.met.segment.now a.at u.result (omega arith) u.ensures.value (omega arith) (omega arith) _ c.meets_block.ensures)
    (λ h. absurd (omega arith))

pub add-requires : goal.add-requires
add-requires c =
    let long = c.requires.segment_len_bound (omega arith) in
    record {
      le_size = omega arith;
      size_bound = omega arith;
      size_bound_2 = omega arith;
    }

pub returns : goal.returns
returns c =
    let u = c.u64_at-size in
    let a = c.args in
    let seg = a.met.segment.now in
    was-added u.result u.ensures.value c.add.ensures.map_len_unchanged
    (sym (ap not c.if-meets_block.false)
    ∙ overlap-decides seg a.at u.result (omega arith) u.ensures.value (omega arith) (omega arith) _ c.meets_block.ensures)
    (λ h.
    c.add.ensures.by_index seg _ (c.requires.held.mapped (omega arith)) (omega arith) (sym c.meets_block.ensures ∙ c.if-meets_block.false))
