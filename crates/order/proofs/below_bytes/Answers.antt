-- The bytes passed are the same.
use Rattle.order.proofs.Sixteen.{same_none}
use Rattle.order.proofs.Windows.{same-fewer, byte-window, window_same, window-differ}
use native.Mathlib.Omega.{arith}
use Rattle.order.proofs.below_bytes.Goals as goal

pub loop-i-init : goal.loop-i-init
loop-i-init c = same_none _ _

pub returns-then-a-i : goal.returns-then-a-i
returns-then-a-i c =
    window-differ (byte-window c.loop-i.invariant (λ k. (c.type_inv.a k).fits) (λ k. (c.type_inv.b k).fits) (omega arith) (omega arith)) c.if-a-i.true

pub loop-i-preserved : goal.loop-i-preserved
loop-i-preserved c =
    window_same (byte-window c.loop-i.invariant (λ k. (c.type_inv.a k).fits) (λ k. (c.type_inv.b k).fits) (omega arith) (omega arith)) c.if-a-i.false

pub shorter-requires : goal.shorter-requires
shorter-requires c = same-fewer _ (omega arith) c.loop-i.invariant
