-- The part of the image is the body; the flag chooses the reader.
use mathlib.Core.Path.{ap, ◌∙◌}
use borrow.Author.Tests.{eq-eqb, ne_eqb}
use Rattle.format.specs.Datatype.{read_datatype, read_shared}
use Rattle.format.specs.Dataset.{read_type}
use Rattle.walk.proofs.Tests.{takes-then, takes-else}
use Rattle.dataset.proofs.DatasetLaws.{body-part}
use Rattle.dataset.proofs.dataset.read_type.Goals as goal

pub returns-then-body-eq1 : goal.returns-then-body-eq1
unfolding read_type
returns-then-body-eq1 c =
    let a = c.args in
    takes-then _ _ (eq-eqb _ _ c.if-body-eq1.true)
    (c.read_shared.ensures ∙ ap read_shared (body-part a.image.now a.body.place a.body.size))

pub returns : goal.returns
unfolding read_type
returns c =
    let a = c.args in
    takes-else _ _ (ne_eqb _ _ c.if-body-eq1.false)
    (c.read.ensures ∙ ap read_datatype (body-part a.image.now a.body.place a.body.size))
