-- What the whole search finds is what it finds from this cell's byte on; each turn settles one cell.
use Rattle.std.proofs.Common.{◌≡◌, ◌+◌, ◌-◌, ◌/◌, sym, ◌∙◌}
use Rattle.free_map.proofs.SearchLaws.{left-first, turn-hit, turn-miss, turn_last}
use native.Mathlib.Omega.{arith}
use Rattle.free_map.proofs.meets.Goals as goal

pub loop-c-init : goal.loop-c-init
loop-c-init c =
    let a = c.args in
    (omega arith, omega arith, left-first a.map.now a.off a.size)

pub returns-then-cell_meets : goal.returns-then-cell_meets
returns-then-cell_meets c =
    let a = c.args in
    turn-hit a.map.now a.off a.size c.loop-c.c c.loop-c.from c.loop-c.invariant.2 (omega arith) (omega arith)
    (sym (rw c.cell.ensures at c.cell_meets.ensures) ∙ c.if-cell_meets.true)

pub loop-c-preserved : goal.loop-c-preserved
loop-c-preserved c =
    let a = c.args in (
      omega arith,
      omega arith,
      turn-miss a.map.now a.off a.size c.loop-c.c c.loop-c.from c.loop-c.invariant.2 (omega arith) (omega arith)
          (sym (rw c.cell.ensures at c.cell_meets.ensures) ∙ c.if-cell_meets.false),
    )

pub returns : goal.returns
returns c =
    let a = c.args in
    let l = c.loop-c in
    let e : l.c ≡ (a.off + a.size - 1) / 16 = omega arith in
    rw (c.cell_meets-2.ensures, c.cell-2.ensures)
    (turn_last a.map.now a.off a.size _ l.from _ (rw e at l.invariant.2) (omega arith) (omega arith) (omega arith))
