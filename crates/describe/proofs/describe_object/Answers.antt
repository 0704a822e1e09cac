-- The dataset's walk, on a working list, becomes the reply.
use lib.ListN.{length}
use Rattle.std.proofs.lemmas.Result.{err_from_is_err_and}
use Rattle.superblock.specs.Superblock.{superblock_of}
use Rattle.object.proofs.ObjectLaws.{opened, room-lent}
use Rattle.dataset_at.specs.Reader.{dataset_at_walk}
use Rattle.describe.proofs.ReplyLaws.{object-stopped, object-within, object-described}
use Rattle.describe.proofs.describe_object.Goals as goal

pub dataset_at-requires : goal.dataset_at-requires
dataset_at-requires c =
    record {
      opened = opened c.args.image.now c.args.superblock _ (length c.args.list.now) c.places-room.ensures c.requires;
      lent = room-lent c.args.list.now _ c.places-room.ensures;
    }

pub described-requires : goal.described-requires
described-requires c = c.in_ok-read.ensures.readable

pub returns-in_err-read : goal.returns-in_err-read
returns-in_err-read c =
    let p = err_from_is_err_and c.from_residual.result c.from_residual.ensures.1 in
    rw (p.1, p.2)
    (record {
      block_count_bound = tt;
      by_index = object-stopped c.args.image.now c.args.superblock.end_of_file c.places-room.result
          (dataset_at_walk (superblock_of c.args.superblock) c.args.at) c.args.list.now c.dataset_at.new.list c.places-room.ensures _ c.in_err-read.ensures;
    })

pub returns : goal.returns
returns c =
    let read = c.in_ok-read.read in
    record {
      block_count_bound = object-within c.args.image.now c.args.superblock.end_of_file c.places-room.result
          (dataset_at_walk (superblock_of c.args.superblock) c.args.at) c.args.list.now c.dataset_at.new.list c.places-room.ensures
          read.dataset read.space read.count c.in_ok-read.ensures _ c.described.ensures;
      by_index = object-described c.args.image.now c.args.superblock.end_of_file c.places-room.result
          (dataset_at_walk (superblock_of c.args.superblock) c.args.at) c.args.list.now c.dataset_at.new.list c.places-room.ensures
          read.dataset read.space read.count c.in_ok-read.ensures _ c.described.ensures;
    }
