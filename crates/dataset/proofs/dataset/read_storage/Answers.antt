-- The layout's walk, then the data's, each by what its function returned.
use mathlib.Core.Path.{refl}
use Rattle.std.proofs.lemmas.Result.{err_from_is_err_and}
use Rattle.dataset.proofs.DatasetLaws.{messages-refused, data-refused, data-entered}
use Rattle.dataset.proofs.dataset.read_storage.Goals as goal

pub returns-in_err-dataset-clause-walked : goal.returns-in_err-dataset-clause-walked
returns-in_err-dataset-clause-walked c =
    let a = c.args in
    let b = a.blocks.now in
    let p = err_from_is_err_and c.from_residual.result c.from_residual.ensures.1 in
    rw (p.1, p.2)
    (messages-refused a.image.now a.bounds.end_of_file a.bounds.room b.count b.words.now c.requires.lent a.bodies.space a.parts a.bodies.layout
    c.in_err-dataset.ensures.result_value refl)

pub returns-in_err-enter_data-clause-walked : goal.returns-in_err-enter_data-clause-walked
returns-in_err-enter_data-clause-walked c =
    let a = c.args in
    let b = a.blocks.now in
    let p = err_from_is_err_and c.from_residual-in_err-enter_data.result c.from_residual-in_err-enter_data.ensures.1 in
    rw (p.1, p.2)
    (data-refused a.image.now a.bounds.end_of_file a.bounds.room b.count b.words.now c.requires.lent a.bodies.space a.parts a.bodies.layout
    c.in_ok-dataset.ensures.result_value refl c.enter_data.new.blocks.words.now (c.in_err-enter_data.ensures.walked a.image.now) refl)

pub returns-clause-walked : goal.returns-clause-walked
returns-clause-walked c =
    let a = c.args in
    let b = a.blocks.now in
    data-entered a.image.now a.bounds.end_of_file a.bounds.room b.count b.words.now c.requires.lent a.bodies.space a.parts a.bodies.layout
    c.in_ok-dataset.ensures.result_value refl c.enter_data.new.blocks.words.now
    (c.in_ok-enter_data.ensures.walked a.image.now) refl c.in_ok-enter_data.ensures.kept.long
