-- A cell whose bytes are all free stays; before a marked cell without a free byte the string ends outside; else the cell decides.
use Prim.Native.Nat.{◌+◌, ◌*◌}
use mathlib.Core.Path.{◌≡◌}
use Rattle.free_map.proofs.CellLaws.{start_plain}
use Rattle.string_ends.proofs.NumberLaws.{remarked-whole}
use Rattle.string_ends.proofs.CellLaws.{cell-marked}
use native.Mathlib.Omega.{arith}
use Rattle.string_ends.proofs.number_before.Goals as goal

pub returns-then-w-eq-FREE : goal.returns-then-w-eq-FREE
returns-then-w-eq-FREE c = λ bs k. rw c.if-w-eq-FREE.true (remarked-whole 16 _ (start_plain 16 (omega arith)))

pub returns-then-v-eq-MARKED : goal.returns-then-v-eq-MARKED
returns-then-v-eq-MARKED c =
    let a = c.args in
    let start : 16 * a.c + 0 ≡ 16 * a.c = omega arith in
    λ bs k. rw (rw start at (cell-marked (rw c.if-v-eq-MARKED.true at k) 0 (omega arith))) c.remarked.ensures

pub returns : goal.returns
returns c = λ bs k. rw (c.ends_at.ensures bs k) at c.remarked-2.ensures
