-- The header, then what stands behind it by its kind.
use Rattle.dataset_at.proofs.ReaderLaws.{header-stopped, at-kind, committed-found, group-found, dataset-found}
use Rattle.std.proofs.lemmas.Result.{err_from_is_err_and}
use Rattle.dataset_at.proofs.read_object.Goals as goal

pub read_messages-requires : goal.read_messages-requires
read_messages-requires c =
    let a = c.args in
    let b = a.blocks.now in
    let h = rw c.in-Dataset.is at c.in_ok-header.ensures.header in
    let m = at-kind a.image.now a.bounds.end_of_file a.bounds.room b.words.now b.count c.requires.lent c.read.new.blocks.words.now a.at _ _
    c.read.ensures.kept.long h.walked in
    record {
      lent = m.lent;
      bodies_inside = record { space_inside = h.bodies.0; type_inside = h.bodies.1; layout_inside = h.bodies.2 };
    }

pub returns-in_err-header-clause-read : goal.returns-in_err-header-clause-read
returns-in_err-header-clause-read c =
    let a = c.args in
    let b = a.blocks.now in
    let p = err_from_is_err_and c.from_residual.result c.from_residual.ensures.1 in
    rw (p.1, p.2)
    (header-stopped a.image.now a.bounds.end_of_file a.bounds.room b.words.now b.count c.requires.lent c.read.new.blocks.words.now a.at _
    c.in_err-header.ensures.header.walked)

pub returns-in-Committed-clause-read : goal.returns-in-Committed-clause-read
returns-in-Committed-clause-read c =
    let a = c.args in
    let b = a.blocks.now in
    committed-found a.image.now a.bounds.end_of_file a.bounds.room b.words.now b.count c.requires.lent c.read.new.blocks.words.now a.at _
    c.read.ensures.kept.long (rw c.in-Committed.is at c.in_ok-header.ensures.header).walked

pub returns-in-Group-clause-read : goal.returns-in-Group-clause-read
returns-in-Group-clause-read c =
    let a = c.args in
    let b = a.blocks.now in
    group-found a.image.now a.bounds.end_of_file a.bounds.room b.words.now b.count c.requires.lent c.read.new.blocks.words.now a.at _
    c.read.ensures.kept.long _ _ (rw c.in-Group.is at c.in_ok-header.ensures.header).walked

pub returns-in-Dataset-clause-read : goal.returns-in-Dataset-clause-read
returns-in-Dataset-clause-read c =
    let a = c.args in
    let b = a.blocks.now in
    dataset-found a.image.now a.bounds.end_of_file a.bounds.room b.words.now b.count c.requires.lent c.read.new.blocks.words.now a.at _
    c.read.ensures.kept.long _ _ _ _ _ (rw c.in-Dataset.is at c.in_ok-header.ensures.header).walked c.read_messages.ensures.read
