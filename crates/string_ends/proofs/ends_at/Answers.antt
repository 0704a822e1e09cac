-- Behind the segment there is nothing; the byte at the cell's start, a NUL in the cell or its mark decides.
use Prim.Native.Nat.{◌+◌, ◌*◌, ◌≤◌}
use mathlib.Core.Path.{◌≡◌, sym, ◌∙◌}
use lib.ListN.{length}
use Rattle.order.proofs.Sixteen.{none_found}
use Rattle.free_map.specs.FreeMap.{free_start}
use Rattle.string_ends.proofs.ByteLaws.{ends-behind}
use Rattle.string_ends.proofs.NumberLaws.{end-most}
use Rattle.string_ends.proofs.CellLaws.{cell-without}
use Rattle.string_ends.proofs.ScanLaws.{same-cell, scan-free}
use native.Mathlib.Omega.{arith}
use Rattle.string_ends.proofs.ends_at.Goals as goal

pub returns-then-whole-c : goal.returns-then-whole-c
returns-then-whole-c c =
    let a = c.args in
    λ bs k. sym (ends-behind a.segment.now bs (16 * a.c) (omega arith))

pub returns-then-whole-c-2 : goal.returns-then-whole-c-2
returns-then-whole-c-2 c = λ bs k. c.ends_in_cell.ensures bs (same-cell k)

pub returns-then-free_start-gt0 : goal.returns-then-free_start-gt0
returns-then-free_start-gt0 c =
    let a = c.args in
    λ bs k. scan-free a.segment.now a.v (16 * a.c) (omega (arith, c.free_start.ensures)) bs (same-cell k)

pub returns-then-contains_at : goal.returns-then-contains_at
returns-then-contains_at c = λ bs k. c.ends_in_cell-then-contains_at.ensures bs (same-cell k)

pub returns : goal.returns
returns c =
    let a = c.args in
    let none = none_found 0 a.segment.now (16 * a.c) 16 (omega arith) (sym c.contains_at.ensures ∙ c.if-contains_at.false) in
    let whole : 16 * a.c + 16 ≤ length a.segment.now = omega arith in
    let start : free_start a.v ≡ 0 = omega (arith, c.free_start.ensures) in
    let end = end-most a.v (omega arith) in
    λ bs k. c.is_marked.ensures ∙ cell-without k whole start none (omega (arith, end))
