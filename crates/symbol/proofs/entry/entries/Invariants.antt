-- Turn by turn, the entries that are left to read.
use Rattle.symbol.proofs.EntryLaws.{Turn}
use Rattle.symbol.proofs.entry.entries.Given as goal

abbrev pub invariant-loop-i : goal.invariant-loop-i
invariant-loop-i g l =
    let v = g.V.Visitor in
    Turn (v.visit l.fn.visitor) l.group l.fn.range l.from l.n (v.found l.fn.visitor) (v.links l.fn.visitor) l.i l.last l.floor (v.found l.visitor)
    (v.links l.visitor) × v.Ready l.visitor × v.Same l.fn.visitor l.visitor
