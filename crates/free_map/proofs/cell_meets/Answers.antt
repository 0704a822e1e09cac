-- A cell without a free byte has none; else the bytes at the cell's start decide, or those at its end.
use Rattle.free_map.proofs.SearchLaws.{empty-cell, start-decides, end-decides}
use Rattle.free_map.proofs.cell_meets.Goals as goal

pub returns-then-v-eq0 : goal.returns-then-v-eq0
returns-then-v-eq0 c =
    let a = c.args in
    empty-cell a.v a.from a.end c.if-v-eq0.true c.requires

pub returns-then-from-free_start : goal.returns-then-from-free_start
returns-then-from-free_start c =
    let a = c.args in
    start-decides a.v a.from a.end (rw c.free_start.ensures at c.if-from-free_start.true)

pub returns : goal.returns
returns c =
    let a = c.args in
    rw c.free_end.ensures (end-decides a.v a.from a.end (rw c.free_start.ensures at c.if-from-free_start.false))
