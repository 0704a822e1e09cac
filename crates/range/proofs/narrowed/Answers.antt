-- The keys alone where nothing bounds the node, and else the higher and the lower ones.
use Rattle.range.proofs.RangeLaws.{narrowed-first, narrowed-more}
use Rattle.range.proofs.narrowed.Goals as goal

pub returns-in-Some : goal.returns-in-Some
returns-in-Some c = rw c.in-Some.is (narrowed-more _ _ _ _ _ _ c.higher.ensures c.lower.ensures)

pub returns-in-None : goal.returns-in-None
returns-in-None c = rw c.in-None.is (narrowed-first _ _ _ c.requires.name_inside c.requires.name_inside_2)
