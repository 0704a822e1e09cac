-- What was read is what is printed for.
use mathlib.Core.Path.{sym}
use lib.Seq.{length-take-le}
use Rattle.input.proofs.ReadingLaws.{reads-within}
use Rattle.command.proofs.respond.Goals as goal

pub slice_bounds-report-end : goal.slice_bounds-report-end
slice_bounds-report-end g c = reads-within c.in_ok-input.ensures

pub slice_bounds-report-end-2 : goal.slice_bounds-report-end-2
slice_bounds-report-end-2 g c = sym (length-take-le _ c.read_to_end.new.buffer (reads-within c.in_ok-input.ensures))
