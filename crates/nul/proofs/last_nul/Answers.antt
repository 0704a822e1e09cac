-- No byte from `end` on is a NUL; sixteen bytes without one move `end`.
use Prim.Native.Nat.{◌-◌}
use mathlib.Core.Path.{sym, ◌∙◌}
use Rattle.order.proofs.Sixteen.{none_found}
use Rattle.nul.proofs.Search.{none_from}
use native.Mathlib.Omega.{arith}
use Rattle.nul.proofs.last_nul.Goals as goal

pub loop-end-init : goal.loop-end-init
loop-end-init c = (omega arith, λ k h l. absurd (omega arith))

pub loop-end-preserved : goal.loop-end-preserved
loop-end-preserved c =
    let seg = c.args.segment.now in
    let none = none_found 0 seg (c.loop-end.end - 16) 16 (omega arith) (sym c.contains_at.ensures ∙ c.if-contains_at.false) in
    (omega arith, none_from seg c.loop-end.end 16 (omega arith) (omega arith) none c.loop-end.invariant.1)
