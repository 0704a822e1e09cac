-- The cells from c on are marked.
use Prim.Native.Nat.{◌+◌, ◌-◌}
use mathlib.Core.Path.{◌≡◌, refl, sym}
use lib.ListN.{length, length-set, get_or-eq_default}
use lib.Seq.{get_or-set_same}
use Rattle.string_ends.proofs.MarkLaws.{MarkedFrom, cell-of, marked-none, marked_next, marked_all}
use native.Mathlib.Omega.{arith}
use Rattle.string_ends.proofs.mark.Goals as goal

pub loop-c-init : goal.loop-c-init
loop-c-init c =
    let map = c.args.map.now in
    (refl, omega arith, sym (get_or-eq_default map 0 {n = length map} (omega arith)), λ bs m. marked-none _ c.args.segment.now bs c.requires m)

pub loop-c-preserved : goal.loop-c-preserved
loop-c-preserved c =
    let l = c.loop-c in
    let seg = c.args.segment.now in
    let made = c.number_before-v.result in
    let next : l.c - 1 + 1 ≡ l.c = omega arith in
    let same = length-set l.map (l.c - 1) made in (
      omega (arith, same),
      omega (arith, same),
      sym (get_or-set_same l.map (l.c - 1) made 0 (omega arith)),
      λ bs m.
          let rest : MarkedFrom l.map seg bs l.c = l.invariant.3 bs m in
          let here = cell-of l.map seg bs l.c rest.bytes (rest.marks l.c (omega arith)) in
          marked_next l.map seg bs (l.c - 1) made (omega arith) (rw next rest) (c.number_before-v.ensures bs (rw (next, l.invariant.2) here)),
    )

pub returns : goal.returns
returns c =
    let l = c.loop-c in
    let none : l.c ≡ 0 = omega arith in
    λ bs m.
    let made = rw none at (l.invariant.3 bs m) in
    (made.bytes, marked_all l.map c.args.segment.now bs (omega arith) made)
