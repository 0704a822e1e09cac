-- The last name where nothing bounds the next, and else the higher of it and the low key.
use Rattle.range.proofs.RangeLaws.{floor-last, floor-higher}
use Rattle.range.proofs.floor.Goals as goal

pub returns-in-Some : goal.returns-in-Some
returns-in-Some c = rw c.in-Some.is (floor-higher _ _ _ _ c.higher.ensures)

pub returns-in-None : goal.returns-in-None
returns-in-None c = rw c.in-None.is (floor-last _ _ c.requires.name_inside)
