-- The group is read as the audit's walk reads it.
use Rattle.object.proofs.ObjectLaws.{group-is}
use Rattle.object.proofs.object.read_group.Goals as goal

pub returns-clause-walked : goal.returns-clause-walked
returns-clause-walked c =
    let read = rw c.bounds.ensures at c.read.ensures.read in
    group-is _ c.args.file.superblock _ _ _ _ _ _ _ c.requires.listed _ _ _ _ _ _ _ c.read.result c.read.ensures.kept.long c.read.ensures.visitor read
