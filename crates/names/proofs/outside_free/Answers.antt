-- By the map where it has cells; else the string's end is looked for, and the list followed.
use mathlib.Core.Bool.{not}
use mathlib.Core.Path.{ap, ◌∙◌}
use Rattle.names.proofs.ValueLaws.{nul-found, free-decides}
use native.Mathlib.Omega.{arith}
use Rattle.names.proofs.outside_free.Goals as goal

pub returns-then-map-ne0 : goal.returns-then-map-ne0
returns-then-map-ne0 c =
    c.ends_outside.ensures _ (c.requires.held.mapped (omega arith)) c.requires.marked (omega arith)

pub overflow_sub-end : goal.overflow_sub-end
overflow_sub-end c = omega (arith, nul-found c.requires.segment_in_bounds c.nul_within-end.ensures)

pub overflow_add-end : goal.overflow_add-end
overflow_add-end c = record { fits = omega (arith, nul-found c.requires.segment_in_bounds c.nul_within-end.ensures) }

pub overlaps_free-requires-clause-size_in_bounds : goal.overlaps_free-requires-clause-size_in_bounds
overlaps_free-requires-clause-size_in_bounds c = omega (arith, nul-found c.requires.segment_in_bounds c.nul_within-end.ensures)

pub returns : goal.returns
returns c =
    let e = nul-found c.requires.segment_in_bounds c.nul_within-end.ensures in
    ap not c.overlaps_free.ensures ∙ free-decides c.args.strings.segment.now _ c.args.off _ c.requires.segment_in_bounds (omega arith)
