-- A difference was found exactly if the bytes looked at aren't the same.
use mathlib.Core.Path.{◌≡◌, refl}
use Rattle.format.specs.Bytes.{same_bytes}
use Rattle.order.proofs.Sixteen.{differ-turn, same_turn}
use native.Mathlib.Omega.{arith}
use Rattle.order.proofs.same_16.Goals as goal
use Rattle.order.proofs.same_16.Goals.{then-a-at, else-a-at}

pub loop-k-init : goal.loop-k-init
unfolding same_bytes
loop-k-init c = (omega arith, refl)

pub loop-k-preserved : goal.loop-k-preserved
loop-k-preserved c =
    let a = c.args in (
      omega arith,
      elim c.if-a-at.branch [
        | then-a-at w ↦ rw w.differ-is (differ-turn a.a.now a.b.now a.at c.loop-k.k (omega arith) (omega arith) w.if-a-at.true)
        | else-a-at w ↦
            rw w.differ-is (same_turn a.a.now a.b.now a.at c.loop-k.k (omega arith) (omega arith) c.loop-k.invariant.1 w.if-a-at.false)
      ],
    )

pub returns : goal.returns
returns c =
    let l = c.loop-k in
    let k : l.k ≡ 16 = omega arith in
    rw k at l.invariant.1
