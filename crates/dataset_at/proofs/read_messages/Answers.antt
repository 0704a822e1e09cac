-- The dataset's walk ends as its reader says; the sizes and maxima lie in the body.
use Rattle.std.proofs.lemmas.Result.{err_from_is_err_and}
use Rattle.dataset_at.proofs.ReaderLaws.{reader-stopped, messages-read}
use Rattle.dataset_at.proofs.read_messages.Goals as goal

pub returns-in_err-dataset-clause-read : goal.returns-in_err-dataset-clause-read
returns-in_err-dataset-clause-read c =
    let a = c.args in
    let p = err_from_is_err_and c.from_residual.result c.from_residual.ensures.1 in
    rw (p.1, p.2)
    (reader-stopped a.image.now a.bounds.end_of_file a.bounds.room _ _ _ c.in_err-dataset.ensures.walked)

pub returns-clause-read : goal.returns-clause-read
returns-clause-read c =
    let a = c.args in
    let b = a.blocks.now in
    messages-read a.image.now a.bounds.end_of_file a.bounds.room b.words.now b.count c.requires.lent _ _ a.bodies.space _ _
    c.read.ensures.kept.long c.requires.bodies_inside.space_inside c.in_ok-dataset.ensures.dataset_shaped c.in_ok-dataset.ensures.walked
