-- The numbers of the first bytes or of the next, where they differ, and else all bytes decide.
use Rattle.range.proofs.FirstBytes.{first_below, second_below}
use Rattle.range.proofs.name_below.Goals as goal

pub returns-then-a-b : goal.returns-then-a-b
returns-then-a-b c =
    let a = c.args in
    first_below a.segment.now a.a a.b (λ k. (c.type_inv.segment k).fits) c.requires.name_inside c.requires.name_inside_2 c.if-a-b.true

pub returns-then-a-b-2 : goal.returns-then-a-b-2
returns-then-a-b-2 c =
    let a = c.args in
    second_below a.segment.now a.a a.b (λ k. (c.type_inv.segment k).fits) c.requires.name_inside c.requires.name_inside_2 c.if-a-b.false
    c.if-a-b-2.true
