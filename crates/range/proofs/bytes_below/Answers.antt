-- The two parts of the segment, compared.
use mathlib.Core.Path.{◌∙◌}
use Rattle.heap.proofs.SegmentLaws.{part-between}
use Rattle.range.proofs.bytes_below.Goals as goal

pub returns : goal.returns
returns c =
    let a = c.args in
    let e = part-between a.segment.now a.a.at a.a.size in
    let f = part-between a.segment.now a.b.at a.b.size in
    c.below.ensures ∙ rw (e, f)
