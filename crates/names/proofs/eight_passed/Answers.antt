-- Eight bytes without a NUL, or none.
use mathlib.Core.Path.{sym, ◌∙◌}
use Rattle.names.proofs.StartLaws.{passed_none, passed-more}
use native.Mathlib.Omega.{arith}
use Rattle.names.proofs.eight_passed.Goals as goal

pub returns-then-contains_at : goal.returns-then-contains_at
returns-then-contains_at c = let a = c.args in passed_none a.segment.now a.off

pub returns : goal.returns
returns c =
    let a = c.args in
    passed-more a.segment.now a.off 8 (omega arith) (sym c.contains_at.ensures ∙ c.if-contains_at.false)
