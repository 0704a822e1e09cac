-- The tests decide.
use mathlib.Core.Path.{sym, ◌∙◌}
use Rattle.visit.proofs.VisitLaws.{link-other, link-hard, link-soft}
use native.Mathlib.Omega.{arith}
use Rattle.visit.proofs.compare.Goals as goal

pub returns-then-not-is_wanted : goal.returns-then-not-is_wanted
returns-then-not-is_wanted c =
    let a = c.args in
    link-other a.entry.name.now a.wanted.now a.entry.kind a.entry.header a.link (sym c.is_wanted.ensures ∙ c.if-not-is_wanted.true)

pub returns-then-hard : goal.returns-then-hard
returns-then-hard c =
    let a = c.args in
    link-hard a.entry.name.now a.wanted.now a.entry.kind a.entry.header a.link (sym c.is_wanted.ensures ∙ c.if-not-is_wanted.false)
    (omega arith)

pub returns : goal.returns
returns c =
    let a = c.args in
    link-soft a.entry.name.now a.wanted.now a.entry.kind a.entry.header a.link (sym c.is_wanted.ensures ∙ c.if-not-is_wanted.false)
    (omega arith)
