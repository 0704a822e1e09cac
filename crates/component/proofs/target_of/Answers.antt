-- Each case of what the entries say, and whether the component is the last.
use Rattle.format.specs.Lookup.{target_walk}
use Rattle.component.proofs.target_of.Goals as goal

pub returns-in-Absent : goal.returns-in-Absent
unfolding target_walk
returns-in-Absent c = rw c.in-Absent.is search

pub returns-in-Hard : goal.returns-in-Hard
unfolding target_walk
returns-in-Hard c = rw c.in-Hard.is search

pub returns-in-Symbolic : goal.returns-in-Symbolic
unfolding target_walk
returns-in-Symbolic c = rw (c.in-Symbolic.is, c.if-last.true) search

pub returns-in-Symbolic-2 : goal.returns-in-Symbolic-2
unfolding target_walk
returns-in-Symbolic-2 c = rw (c.in-Symbolic.is, c.if-last.false) search
