-- By the first sixteen bytes, if the segment has so many.
use mathlib.Core.Bool.{true, false}
use mathlib.Core.Path.{◌≡◌, sym, ◌∙◌}
use Rattle.format.specs.Bytes.{part, contains}
use Rattle.names.proofs.StartLaws.{plain-none, ends-within, ends-plain, goes_on, slash-first}
use Rattle.names.proofs.SizeLaws.{size-slashed, size-slashed-short}
use native.Mathlib.Omega.{arith}
use Rattle.names.proofs.name_size.Goals as goal

pub size_behind-requires : goal.size_behind-requires
size_behind-requires c =
    record {
      segment_in_bounds = c.requires;
      passed_bound = omega arith;
      plain = plain-none _ _;
    }

pub returns-then-contains_at : goal.returns-then-contains_at
returns-then-contains_at c =
    let without-nul : contains 0 (part c.args.segment.now c.args.off 16) ≡ false = sym c.contains_at.ensures ∙ c.if-not-contains_at.true in
    size-slashed _ _ c.requires
    (slash-first c.args.segment.now c.args.off (omega arith) without-nul (sym c.contains_at-then-not-contains_at.ensures ∙ c.if-contains_at.true))

pub size_behind-requires-then-not-contains_at : goal.size_behind-requires-then-not-contains_at
size_behind-requires-then-not-contains_at c =
    let without-nul : contains 0 (part c.args.segment.now c.args.off 16) ≡ false = sym c.contains_at.ensures ∙ c.if-not-contains_at.true in
    record {
      segment_in_bounds = c.requires;
      passed_bound = omega arith;
      plain = goes_on _ _ (omega arith) without-nul (sym c.contains_at-then-not-contains_at.ensures ∙ c.if-contains_at.false);
    }

pub has_slash-requires : goal.has_slash-requires
has_slash-requires c =
    let with-nul : contains 0 (part c.args.segment.now c.args.off 16) ≡ true = sym c.contains_at.ensures ∙ c.if-not-contains_at.false in
    let a = c.args in
    record {
      off_in_bounds = omega arith;
      n_bound = omega (arith, ends-within a.segment.now a.off with-nul c.string_size-n.ensures);
    }

pub returns-then-has_slash : goal.returns-then-has_slash
returns-then-has_slash c =
    size-slashed-short _ _ c.requires c.string_size-n.ensures (sym c.has_slash.ensures ∙ c.if-has_slash.true)

pub size_unless_dot-requires : goal.size_unless_dot-requires
size_unless_dot-requires c =
    let with-nul : contains 0 (part c.args.segment.now c.args.off 16) ≡ true = sym c.contains_at.ensures ∙ c.if-not-contains_at.false in
    record {
      segment_in_bounds = c.requires;
      slashless = ends-plain _ _ with-nul c.string_size-n.ensures (sym c.has_slash.ensures ∙ c.if-has_slash.false);
    }
