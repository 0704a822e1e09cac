-- The string at off ends outside exactly if the rest of it from i on does; the first byte that decides is met before the cell's end, or none is.
use Rattle.std.proofs.Common.{◌≡◌, ◌+◌, ◌-◌, ◌%◌, ◌∙◌}
use Rattle.string_ends.proofs.NumberLaws.{end-most}
use Rattle.string_ends.proofs.ScanLaws.{scan-free, scan-none, scan-behind, scan-nul, scan-next, scan-end}
use native.Mathlib.Omega.{arith}
use Rattle.string_ends.proofs.ends_in_cell.Goals as goal

pub returns-then-off-free_start : goal.returns-then-off-free_start
returns-then-off-free_start c =
    scan-free c.args.segment.now c.args.v c.args.off (omega (arith, c.free_start.ensures))

pub overflow_sub-end : goal.overflow_sub-end
overflow_sub-end c = omega (arith, c.free_end.ensures, end-most c.args.v (omega arith))

pub loop-k-init : goal.loop-k-init
loop-k-init c =
    let off = c.args.off in
    let e = c.free_end.ensures in
    let at : off - off % 16 + off % 16 ≡ off = omega arith in
    rw (e, at) (scan-none c.args.segment.now c.args.v off (omega arith) (omega (arith, c.free_start.ensures)))

pub returns-then-segment-start : goal.returns-then-segment-start
returns-then-segment-start c =
    let l = c.loop-k in
    scan-behind _ _ _ _ _ _ l.invariant (omega arith)

pub returns-then-segment-start-eq0 : goal.returns-then-segment-start-eq0
returns-then-segment-start-eq0 c =
    let l = c.loop-k in
    scan-nul _ _ _ _ _ _ l.invariant (omega arith) (omega arith) c.if-segment-start-eq0.true

pub loop-k-preserved : goal.loop-k-preserved
loop-k-preserved c =
    let l = c.loop-k in
    let start = c.args.off - c.args.off % 16 in
    let next : start + (l.k + 1) ≡ start + l.k + 1 = omega arith in
    rw next (scan-next _ _ _ _ _ _ l.invariant (omega arith) (omega arith) c.if-segment-start-eq0.false)

pub returns : goal.returns
returns c =
    let l = c.loop-k in
    λ bs k. c.is_marked.ensures ∙ scan-end _ _ _ _ _ _ l.invariant (omega arith) bs k
