-- The cell of the map is known; its mark or its bytes decide.
use Prim.Native.Nat.{◌/◌, ◌%◌, ◌+◌, ◌*◌}
use mathlib.Core.Path.{◌≡◌, sym, ◌∙◌}
use Rattle.string_ends.proofs.CellLaws.{cell-marked}
use Rattle.string_ends.proofs.MarkLaws.{cell-of}
use native.Mathlib.Omega.{arith}
use Rattle.string_ends.proofs.ends_outside.Goals as goal

pub returns-then-v-eq-MARKED : goal.returns-then-v-eq-MARKED
returns-then-v-eq-MARKED c =
    let a = c.args in
    let n = a.off in
    λ bs m k p.
    let here = cell-of a.map.now a.segment.now bs (n / 16) m (k.ends (n / 16) (omega (arith, k.long p))) in
    let number = sym c.cell-v.ensures ∙ c.if-v-eq-MARKED.true in
    let place : 16 * (n / 16) + n % 16 ≡ n = omega arith in
    sym (rw place at (cell-marked (rw number at here) (n % 16) (omega arith)))

pub returns : goal.returns
returns c =
    let a = c.args in
    let n = a.off in
    λ bs m k p.
    let here = cell-of a.map.now a.segment.now bs (n / 16) m (k.ends (n / 16) (omega (arith, k.long p))) in
    c.ends_in_cell.ensures bs (rw c.cell-v.ensures here)
