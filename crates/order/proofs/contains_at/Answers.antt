-- It was found exactly if it is one of the bytes looked at.
use mathlib.Core.Path.{◌≡◌, refl}
use Rattle.format.specs.Bytes.{contains}
use Rattle.order.proofs.Sixteen.{found_turn, missed-turn}
use native.Mathlib.Omega.{arith}
use Rattle.order.proofs.contains_at.Goals as goal
use Rattle.order.proofs.contains_at.Goals.{then-x-s, else-x-s}

pub loop-k-init : goal.loop-k-init
unfolding contains
loop-k-init g c = refl

pub loop-k-preserved : goal.loop-k-preserved
loop-k-preserved g c =
    let a = c.args in
    elim c.if-x-s.branch [
      | then-x-s w ↦ rw w.found-is (found_turn a.x a.s.now a.at c.loop-k.k (omega arith) w.if-x-s.true)
      | else-x-s w ↦ rw w.found-is (missed-turn a.x a.s.now a.at c.loop-k.k (omega arith) c.loop-k.invariant w.if-x-s.false)
    ]

pub returns : goal.returns
returns g c =
    let l = c.loop-k in
    let k : l.k ≡ g.row.N = omega arith in
    rw k at l.invariant
