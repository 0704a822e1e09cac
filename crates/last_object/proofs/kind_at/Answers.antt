-- The superblock, then the header; its kind has a number.
use Rattle.format.specs.Header.{group, dataset, committed}
use Rattle.last_object.proofs.LastLaws.{superblock-stopped, at-header, header-stopped, header-known}
use Rattle.std.proofs.lemmas.Result.{err_from_is_err_and}
use Rattle.last_object.proofs.kind_at.Goals as goal

pub read-requires : goal.read-requires
read-requires c = record {
  lent = (at-header c.args.image.now c.args.list.now c.args.superblock c.args.room c.args.at c.requires.lent
      c.enter_superblock.new.blocks.words.now _ c.enter_superblock.ensures.kept.long (c.in_ok-enter_superblock.ensures.walked c.args.image.now)).lent;
  room_le_blocks_most = c.requires.opened.most;
  end_of_file_in_bounds = c.requires.opened.file;
}

pub returns-in_err-enter_superblock : goal.returns-in_err-enter_superblock
returns-in_err-enter_superblock c =
    let p = err_from_is_err_and c.from_residual.result c.from_residual.ensures.1 in
    rw (p.1, p.2)
    (superblock-stopped c.args.image.now c.args.list.now c.args.superblock c.args.room c.args.at c.requires.lent
    c.enter_superblock.new.blocks.words.now _ (c.in_err-enter_superblock.ensures.walked c.args.image.now))

pub returns-in_err-header : goal.returns-in_err-header
returns-in_err-header c =
    let p = err_from_is_err_and c.from_residual-in_err-header.result c.from_residual-in_err-header.ensures.1 in
    rw (p.1, p.2)
    (header-stopped c.args.image.now c.args.list.now c.args.superblock c.args.room c.args.at c.requires.lent
    c.enter_superblock.new.blocks.words.now _ c.enter_superblock.ensures.kept.long (c.in_ok-enter_superblock.ensures.walked c.args.image.now)
    c.read.new.blocks.words.now _ c.in_err-header.ensures.header.walked)

pub returns-in-Group : goal.returns-in-Group
returns-in-Group c =
    header-known c.args.image.now c.args.list.now c.args.superblock c.args.room c.args.at c.requires.lent
    c.enter_superblock.new.blocks.words.now _ c.enter_superblock.ensures.kept.long (c.in_ok-enter_superblock.ensures.walked c.args.image.now)
    c.read.new.blocks.words.now (group _ _) _ c.read.ensures.kept.long (rw c.in-Group.is at c.in_ok-header.ensures.header).walked

pub returns-in-Dataset : goal.returns-in-Dataset
returns-in-Dataset c =
    header-known c.args.image.now c.args.list.now c.args.superblock c.args.room c.args.at c.requires.lent
    c.enter_superblock.new.blocks.words.now _ c.enter_superblock.ensures.kept.long (c.in_ok-enter_superblock.ensures.walked c.args.image.now)
    c.read.new.blocks.words.now (dataset _ _ _) _ c.read.ensures.kept.long (rw c.in-Dataset.is at c.in_ok-header.ensures.header).walked

pub returns-in-Committed : goal.returns-in-Committed
returns-in-Committed c =
    header-known c.args.image.now c.args.list.now c.args.superblock c.args.room c.args.at c.requires.lent
    c.enter_superblock.new.blocks.words.now _ c.enter_superblock.ensures.kept.long (c.in_ok-enter_superblock.ensures.walked c.args.image.now)
    c.read.new.blocks.words.now committed _ c.read.ensures.kept.long (rw c.in-Committed.is at c.in_ok-header.ensures.header).walked
