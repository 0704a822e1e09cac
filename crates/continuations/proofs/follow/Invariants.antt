-- Turn by turn, the walk has come to the continuations that wait at the cursor.
use Prim.Native.Nat.{◌-◌}
use Rattle.walk.specs.Entered.{SameWords}
use Rattle.continuations.specs.Lending.{entered_in}
use Rattle.continuations.proofs.ContinuationLaws.{Loop}
use Rattle.continuations.proofs.follow.Given as goal

abbrev pub invariant-loop-c : goal.invariant-loop-c
invariant-loop-c g l =
    let b₀ = l.fn.blocks in
    let v = g.V.MessageVisitor in
    Loop v.visit l.reading.image.now b₀.words.now l.reading b₀.count (v.state l.fn.found) l.fn.tally l.initial.c l.blocks.words.now l.blocks.count
    (v.state l.found) l.tally l.c
    × v.Counting l.found l.reading.bounds.end_of_file (entered_in l.blocks) 16
    × SameWords b₀ l.blocks
    × v.Same l.fn.found l.found

abbrev pub decreases-loop-c : goal.decreases-loop-c
decreases-loop-c g l = l.reading.bounds.room - l.blocks.count
