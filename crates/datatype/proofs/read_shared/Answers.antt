-- The first check that fails decides; where all pass, the address is read.
use mathlib.Core.Path.{ap, sym, ◌∙◌}
use borrow.Author.Tests.{le-leb, lt-leb}
use Rattle.format.specs.Datatype.{shared_at, read_shared}
use Rattle.format.specs.Result.{value}
use Rattle.laws.proofs.Results.{passes, fails}
use Rattle.datatype.proofs.read_shared.Goals as goal

pub returns-then-body-lt8 : goal.returns-then-body-lt8
unfolding read_shared
returns-then-body-lt8 c = fails _ _ (lt-leb _ _ c.if-body-lt8.true)

pub returns-then-not-shared_read : goal.returns-then-not-shared_read
unfolding read_shared
returns-then-not-shared_read c =
    passes _ _ (le-leb _ _ c.if-body-lt8.false) (fails _ _ (sym c.shared_read.ensures ∙ c.if-not-shared_read.true))

pub returns-then-body-lt10 : goal.returns-then-body-lt10
unfolding read_shared
returns-then-body-lt10 c =
    let second = c in
    passes _ _ (le-leb _ _ second.if-body-lt8.false)
    (passes _ _ (sym second.shared_read.ensures ∙ second.if-not-shared_read.false) (fails _ _ (lt-leb _ _ c.if-body-lt10.true)))

pub returns : goal.returns
unfolding read_shared
returns c =
    let second = c in
    passes _ _ (le-leb _ _ second.if-body-lt8.false)
    (passes _ _ (sym second.shared_read.ensures ∙ second.if-not-shared_read.false)
    (passes _ _ (le-leb _ _ c.if-body-lt10.false) (ap (λ (a : _). value (shared_at a)) c.u64_at.ensures.value)))
