-- Nothing bounds the name, or the high key decides.
use mathlib.Core.Bool.{not}
use mathlib.Core.Path.{ap}
use Rattle.range.proofs.at_most.Goals as goal

pub returns-in-Some : goal.returns-in-Some
returns-in-Some c = rw c.in-Some.is (ap not c.name_below.ensures)
