-- The group is read as the lookup's walk reads it.
use Rattle.std.proofs.lemmas.Result.{err_from_is_err_and}
use Rattle.component.proofs.ComponentLaws.{group-stopped, group-found}
use Rattle.component.proofs.find.Goals as goal

pub returns-in_err-read-clause-found : goal.returns-in_err-read-clause-found
returns-in_err-read-clause-found c =
    let a = c.args in
    let p = err_from_is_err_and c.from_residual.result c.from_residual.ensures.1 in
    rw (p.1, p.2)
    (group-stopped a.file.image.now a.part.name.now a.blocks.now.words.now a.file.superblock _ _ _ _ _ c.read.new.blocks.words.now _ _ _ _
    (rw c.bounds.ensures at c.in_err-read.ensures.read))

pub returns-clause-found : goal.returns-clause-found
returns-clause-found c =
    let a = c.args in
    group-found a.file.image.now a.part.name.now a.blocks.now.words.now a.file.superblock _ _ _ _ _ c.read.new.blocks.words.now _ _ _ _
    (rw c.bounds.ensures at c.in_ok-read.ensures.read) c.target_of.ensures
