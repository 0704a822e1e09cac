-- The first check that fails decides; the class then chooses the reader.
use Rattle.laws.proofs.Results.{passes, fails}
use Rattle.walk.proofs.Tests.{takes-then, takes-else}
use borrow.Author.Tests.{eq-eqb, ne_eqb, le-leb, lt-leb}
use Rattle.format.specs.Layout.{read_layout}
use Rattle.layout.proofs.read.Goals as goal

pub returns-then-body-lt8 : goal.returns-then-body-lt8
unfolding read_layout
returns-then-body-lt8 c = fails _ _ (lt-leb _ _ c.if-body-lt8.true)

pub returns-then-body-ne3 : goal.returns-then-body-ne3
unfolding read_layout
returns-then-body-ne3 c = passes _ _ (le-leb _ _ c.if-body-lt8.false) (fails _ _ (ne_eqb _ _ c.if-body-ne3.true))

pub returns-then-body-gt1 : goal.returns-then-body-gt1
unfolding read_layout
returns-then-body-gt1 c =
    let second = c in
    passes _ _ (le-leb _ _ second.if-body-lt8.false)
    (passes _ _ (eq-eqb _ _ second.if-body-ne3.false) (fails _ _ (lt-leb _ _ c.if-body-gt1.true)))

pub returns-then-body-eq0 : goal.returns-then-body-eq0
unfolding read_layout
returns-then-body-eq0 c =
    let third = c in
    let second = third in
    passes _ _ (le-leb _ _ second.if-body-lt8.false)
    (passes _ _ (eq-eqb _ _ second.if-body-ne3.false) (passes _ _ (le-leb _ _ third.if-body-gt1.false)
    (takes-then _ _ (eq-eqb _ _ c.if-body-eq0.true) c.read_compact.ensures)))

pub returns : goal.returns
unfolding read_layout
returns c =
    let third = c in
    let second = third in
    passes _ _ (le-leb _ _ second.if-body-lt8.false)
    (passes _ _ (eq-eqb _ _ second.if-body-ne3.false) (passes _ _ (le-leb _ _ third.if-body-gt1.false)
    (takes-else _ _ (ne_eqb _ _ c.if-body-eq0.false) c.read_contiguous.ensures)))
