-- The part of the image is the body.
use mathlib.Core.Path.{ap, ◌∙◌}
use Rattle.format.specs.Layout.{read_layout}
use Rattle.dataset.proofs.DatasetLaws.{body-part}
use Rattle.dataset.proofs.dataset.read_layout.Goals as goal

pub returns : goal.returns
returns c =
    let a = c.args in
    c.read.ensures ∙ ap (read_layout a.body.place) (body-part a.image.now a.body.place a.body.size)
