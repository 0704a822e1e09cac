-- The superblock is the first block; then the object is read.
use Rattle.std.proofs.lemmas.Result.{err_from_is_err_and}
use Rattle.superblock.specs.Superblock.{superblock_of}
use Rattle.dataset_at.proofs.ReaderLaws.{superblock-stopped, at-header, object-read}
use native.Mathlib.Omega.{arith}
use Rattle.dataset_at.proofs.dataset_at.Goals as goal

pub read_object-requires : goal.read_object-requires
read_object-requires c =
    let a = c.args in
    let e = c.enter_superblock.ensures in
    let m = at-header a.image.now a.superblock.end_of_file a.room a.list.now c.requires.lent c.enter_superblock.new.blocks.words.now
    (superblock_of a.superblock) a.at _ e.kept.long (c.in_ok-enter_superblock.ensures.walked a.image.now) in
    record {
      lent = m.lent;
      room_le_blocks_most = c.requires.opened.most;
      end_of_file_in_bounds = c.requires.opened.file;
    }

pub returns-in_err-enter_superblock : goal.returns-in_err-enter_superblock
returns-in_err-enter_superblock c =
    let a = c.args in
    let p = err_from_is_err_and c.from_residual.result c.from_residual.ensures.1 in
    let h = superblock-stopped a.image.now a.superblock.end_of_file a.room a.list.now c.requires.lent c.enter_superblock.new.blocks.words.now
    (superblock_of a.superblock) a.at _ (c.in_err-enter_superblock.ensures.walked a.image.now) in
    rw (p.1, p.2) (grind arith)

pub returns : goal.returns
returns c =
    let a = c.args in
    let e = c.enter_superblock.ensures in
    let h = object-read a.image.now a.superblock.end_of_file a.room a.list.now c.requires.lent c.enter_superblock.new.blocks.words.now
    (superblock_of a.superblock) a.at _ e.kept.long (c.in_ok-enter_superblock.ensures.walked a.image.now) _ _ c.read_object.ensures.read in
    grind arith
