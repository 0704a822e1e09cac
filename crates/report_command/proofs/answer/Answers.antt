-- What was read lies in the buffer.
use mathlib.Core.Path.{sym}
use lib.Seq.{length-take-le}
use Rattle.input.proofs.ReadingLaws.{reads-within}
use Rattle.report_command.proofs.answer.Goals as goal

pub slice_bounds-text-end : goal.slice_bounds-text-end
slice_bounds-text-end g c = reads-within c.in-Ok.ensures

pub slice_bounds-text-end-in-Ok : goal.slice_bounds-text-end-in-Ok
slice_bounds-text-end-in-Ok g c = sym (length-take-le _ c.read_to_end.new.buffer (reads-within c.in-Ok.ensures))
