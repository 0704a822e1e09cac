-- The superblock, the header, then the group; the block list begins anew.
use Rattle.component.proofs.ComponentLaws.{superblock-stopped, at-header, header-stopped, committed-found, dataset-found, group-ready, group-is}
use Rattle.std.proofs.lemmas.Result.{err_from_is_err_and}
use Rattle.component.proofs.component.Goals as goal

pub read-requires : goal.read-requires
read-requires c = rw c.bounds.ensures (record {
  lent = (at-header c.args.file.image.now c.args.name.now c.args.list.now c.args.file.superblock c.args.file.room
      c.args.at c.args.last c.requires.lent c.enter_superblock.new.blocks.words.now c.enter_superblock.new.blocks.count
      c.enter_superblock.ensures.kept.long (c.in_ok-enter_superblock.ensures.walked c.args.file.image.now)).lent;
  room_le_blocks_most = c.requires.opened.most;
  end_of_file_in_bounds = c.requires.opened.file;
})

pub find-requires : goal.find-requires
find-requires c = record {
  opened = c.requires.opened;
  ready = group-ready c.args.file.image.now c.args.name.now c.args.list.now c.args.file.superblock c.args.file.room
      c.args.at c.args.last c.requires.lent c.enter_superblock.new.blocks.words.now c.enter_superblock.new.blocks.count
      c.enter_superblock.ensures.kept.long (c.in_ok-enter_superblock.ensures.walked c.args.file.image.now) c.read.new.blocks.words.now
      c.read.new.blocks.count c.read.ensures.kept.long c.in-Group.tree c.in-Group.heap
      (rw (c.bounds.ensures, c.in-Group.is) at c.in_ok-header.ensures.header).walked;
}

pub returns-in_err-enter_superblock : goal.returns-in_err-enter_superblock
returns-in_err-enter_superblock c =
    let p = err_from_is_err_and c.from_residual.result c.from_residual.ensures.1 in
    rw (p.1, p.2)
    (superblock-stopped c.args.file.image.now c.args.name.now c.args.list.now c.args.file.superblock c.args.file.room
    c.args.at c.args.last c.requires.lent c.enter_superblock.new.blocks.words.now _ (c.in_err-enter_superblock.ensures.walked c.args.file.image.now))

pub returns-in_err-header : goal.returns-in_err-header
returns-in_err-header c =
    let p = err_from_is_err_and c.from_residual-in_err-header.result c.from_residual-in_err-header.ensures.1 in
    rw (p.1, p.2)
    (header-stopped c.args.file.image.now c.args.name.now c.args.list.now c.args.file.superblock c.args.file.room
    c.args.at c.args.last c.requires.lent c.enter_superblock.new.blocks.words.now c.enter_superblock.new.blocks.count
    c.enter_superblock.ensures.kept.long (c.in_ok-enter_superblock.ensures.walked c.args.file.image.now) c.read.new.blocks.words.now _
    (rw c.bounds.ensures at c.in_err-header.ensures.header).walked)

pub returns-in-Committed : goal.returns-in-Committed
returns-in-Committed c =
    committed-found c.args.file.image.now c.args.name.now c.args.list.now c.args.file.superblock c.args.file.room
    c.args.at c.args.last c.requires.lent c.enter_superblock.new.blocks.words.now c.enter_superblock.new.blocks.count
    c.enter_superblock.ensures.kept.long (c.in_ok-enter_superblock.ensures.walked c.args.file.image.now) c.read.new.blocks.words.now _
    c.read.ensures.kept.long (rw (c.bounds.ensures, c.in-Committed.is) at c.in_ok-header.ensures.header).walked

pub returns-in-Dataset : goal.returns-in-Dataset
returns-in-Dataset c =
    dataset-found c.args.file.image.now c.args.name.now c.args.list.now c.args.file.superblock c.args.file.room
    c.args.at c.args.last c.requires.lent c.enter_superblock.new.blocks.words.now c.enter_superblock.new.blocks.count
    c.enter_superblock.ensures.kept.long (c.in_ok-enter_superblock.ensures.walked c.args.file.image.now) c.read.new.blocks.words.now _
    c.read.ensures.kept.long _ _ _ (rw (c.bounds.ensures, c.in-Dataset.is) at c.in_ok-header.ensures.header).walked

pub returns-in-Group : goal.returns-in-Group
returns-in-Group c =
    group-is c.args.file.image.now c.args.name.now c.args.list.now c.args.file.superblock c.args.file.room
    c.args.at c.args.last c.requires.lent c.enter_superblock.new.blocks.words.now c.enter_superblock.new.blocks.count
    c.enter_superblock.ensures.kept.long (c.in_ok-enter_superblock.ensures.walked c.args.file.image.now) c.read.new.blocks.words.now
    c.read.new.blocks.count c.read.ensures.kept.long c.in-Group.tree c.in-Group.heap
    (rw (c.bounds.ensures, c.in-Group.is) at c.in_ok-header.ensures.header).walked _ c.find.ensures.found
