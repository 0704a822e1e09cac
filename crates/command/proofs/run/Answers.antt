-- The arrays are as long as is asked, and what is printed lies in the second.
use mathlib.Core.Path.{sym}
use lib.Seq.{length-take-le}
use Rattle.std.proofs.Common.{rules}
use Rattle.format.specs.Limits.{input_most, objects_most}
use Rattle.output.specs.Text.{output_most}
use Rattle.command.proofs.run.Goals as goal

pub respond-requires : goal.respond-requires
unfolding input_most output_most objects_most
respond-requires g c = search rules

pub slice_bounds-out-end : goal.slice_bounds-out-end
slice_bounds-out-end g c = c.in-Ok.ensures.text_within

pub slice_bounds-print-end : goal.slice_bounds-print-end
slice_bounds-print-end g c = sym (length-take-le _ c.respond.new.out c.in-Ok.ensures.text_within)
