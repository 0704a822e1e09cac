-- The tests in their order, then the visit.
use Prim.Native.Nat.{ℕ}
use mathlib.Core.Path.{◌≡◌}
use Rattle.format.specs.Walk.{fault}
use Rattle.heap.proofs.SegmentLaws.{part-between}
use Rattle.symbol.proofs.EntryLaws.{type-refused, link-refused, visit-refused, visited}
use native.Mathlib.Omega.{arith}
use Rattle.std.specs.Prelude.{Some, None, Ok, Err}
use Rattle.std.proofs.lemmas.Result.{err_from_is_err_and}
use Rattle.symbol.proofs.entry.named_entry.Goals as goal

pub returns-then-unknown-clause-read : goal.returns-then-unknown-clause-read
returns-then-unknown-clause-read g c = λ range passed.
    type-refused _ _ _ _ _ _ _ _ c.requires.name_sound passed c.u32_at-kind.ensures.value c.if-unknown.true

pub returns-in_err-map_err-clause-read : goal.returns-in_err-map_err-clause-read
returns-in_err-map_err-clause-read g c = λ range passed.
    let p = err_from_is_err_and c.from_residual.result c.from_residual.ensures.1 in
    let f : (x : ℕ) × (c.check_value.result ≡ Err x) × (c.in_err-map_err.field-0.0 ≡ fault x c.args.at) = grind arith in
    rw (p.1, p.2, f.2)
    (link-refused _ _ _ _ _ _ _ _ c.requires.name_sound passed c.u32_at-kind.ensures.value c.if-unknown.false f.1 c.check_value.ensures)

pub overflow_add-end : goal.overflow_add-end
overflow_add-end g c = omega (arith, c.requires.name_sound.inside.within)

pub returns-in_err-ok_or-clause-read : goal.returns-in_err-ok_or-clause-read
returns-in_err-ok_or-clause-read g c = λ range passed.
    let p = err_from_is_err_and c.from_residual-in_err-ok_or.result c.from_residual-in_err-ok_or.ensures.1 in
    let e : c.check_value.result ≡ Ok tt = grind arith in
    let f : (c.visit.result ≡ None) × (c.in_err-ok_or.field-0.0 ≡ fault 12 c.args.at) = grind arith in
    rw (p.1, p.2, f.1)
    (visit-refused _ _ _ _ _ _ _ _ c.requires.name_sound passed c.u32_at-kind.ensures.value c.if-unknown.false e c.check_value.ensures
    c.u64_at.ensures.value (part-between c.args.group.now.strings.segment.now c.args.name.at c.args.name.size) _ c.visit.ensures.visited f.0)

pub returns-clause-read : goal.returns-clause-read
returns-clause-read g c = λ range passed.
    let e : c.check_value.result ≡ Ok tt = grind arith in
    let f : c.visit.result ≡ Some tt = grind arith in
    visited _ _ _ _ _ _ _ _ c.requires.name_sound passed c.u32_at-kind.ensures.value c.if-unknown.false e c.check_value.ensures
    c.u64_at.ensures.value (part-between c.args.group.now.strings.segment.now c.args.name.at c.args.name.size) _ c.visit.ensures.visited f
