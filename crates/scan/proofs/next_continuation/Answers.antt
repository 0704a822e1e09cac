-- Turn by turn, the messages from here on have all the continuations that are left.
use mathlib.Core.Path.{◌≡◌, sym, ◌∙◌, subst}
use mathlib.Core.Logic.{inl, inr}
use Prim.Native.Nat.{ℕ, ◌+◌}
use Rattle.scan.specs.Scan.{Readable}
use Rattle.scan.proofs.ScanLaws.{holds-step, Seeking, seek-skip, seek_found, seek-end}
use native.Mathlib.Omega.{arith}
use Rattle.scan.proofs.next_continuation.Goals as goal

pub u16_at-requires : goal.u16_at-requires
u16_at-requires c =
    let h = c.loop-at.invariant.0.1 in
    omega (arith, h.inside, (holds-step _ _ _ _ h c.loop-at-test.true).body)

pub returns-then-u16_at-eq16 : goal.returns-then-u16_at-eq16
returns-then-u16_at-eq16 c =
    λ ms h. inr (
      c.loop-at-test.true,
      seek_found _ _ _ _ c.loop-at.invariant.1 c.loop-at-test.true
          (sym c.u16_at.ensures.value ∙ c.if-u16_at-eq16.true) ms h,
    )

pub u16_at-requires-in-loop-at : goal.u16_at-requires-in-loop-at
u16_at-requires-in-loop-at c =
    let h = c.loop-at.invariant.0.1 in
    omega (arith, h.inside, (holds-step _ _ _ _ h c.loop-at-test.true).body)

pub loop-at-preserved : goal.loop-at-preserved
loop-at-preserved c =
    let at = c.loop-at.at in
    let p = holds-step _ _ _ _ c.loop-at.invariant.0.1 c.loop-at-test.true in
    subst (λ (size : ℕ). Readable c.args.image.now (at + 8 + size) c.args.span.end × Seeking c.args.image.now c.args.span.from c.args.span.end (at + 8 + size))
    (sym c.u16_at-in-loop-at.ensures.value) (
      (p.rest, p.holds),
      seek-skip _ _ _ _ c.loop-at.invariant.1 c.loop-at-test.true
          (λ e. c.if-u16_at-eq16.false (c.u16_at.ensures.value ∙ e)),
    )

pub returns : goal.returns
returns c =
    let o = c.loop-at.invariant.0.1.ordered in
    let e : c.loop-at.at ≡ c.args.span.end = omega arith in
    λ ms h. inl (e, seek-end _ _ _ _ c.loop-at.invariant.1 e ms h)
