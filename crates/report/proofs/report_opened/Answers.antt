-- The walk in a filled list, then the laws of Replied.antt at its two ends.
use mathlib.Core.Path.{refl}
use lib.Seq.{length-take-le}
use Rattle.ledger.proofs.ReportLaws.{readable-taken, stored-taken}
use Rattle.audit.proofs.ReplyLaws.{lists-table, stored-room, listed, readable}
use Rattle.report.proofs.Replied.{entered-fit, entered-numbered, refused-is, done-is}
use Rattle.report.proofs.report_opened.Goals as goal

pub walk_image-requires : goal.walk_image-requires
walk_image-requires c = record { bounded = c.requires.bounded; table = lists-table _ _ _ c.requires.lists }

pub refused-requires : goal.refused-requires
refused-requires c =
    record {
      entered_in_bounds = entered-fit c.args.image.now c.args.list.now c.args.superblock c.requires.bounded c.in-Err.refusal
          c.walk_image.new.list _ _ c.walk_image.auto.list c.requires.filled c.in-Err.ensures c.count_entered.result c.count_entered.ensures;
      list_value = entered-numbered c.args.image.now c.args.list.now c.args.superblock c.requires.bounded c.in-Err.refusal
          c.walk_image.new.list _ _ c.walk_image.auto.list c.requires.filled c.in-Err.ensures c.count_entered.result c.count_entered.ensures;
    }

pub slice_bounds-read_stored-end : goal.slice_bounds-read_stored-end
slice_bounds-read_stored-end c =
    let w = c.walk_image.new in
    let r = c.in-Ok.read in
    listed c.args.image.now c.args.list.now c.args.superblock r.block_count r.objects w.list w.addresses w.true_counts c.in-Ok.ensures

pub read_stored-requires : goal.read_stored-requires
read_stored-requires c =
    let w = c.walk_image.new in
    let o = c.in-Ok.read in
    let r = readable c.args.image.now c.args.list.now c.args.superblock o.block_count o.objects w.list w.addresses w.true_counts c.in-Ok.ensures
    c.requires.bounded in
    record {
      readable = readable-taken w.addresses o.objects r.listed c.args.image.now r;
      stored_fit = rw (length-take-le o.objects w.addresses r.listed) (stored-room _ _ _ _ c.requires.lists c.in-Ok.ensures.ready.table.fits);
    }

pub returns-in-Err : goal.returns-in-Err
returns-in-Err c =
    let p = refused-is c.args.image.now c.args.list.now c.args.superblock c.requires.bounded c.in-Err.refusal c.walk_image.new.list
    c.walk_image.new.addresses c.walk_image.new.true_counts c.walk_image.auto.list c.requires.filled c.in-Err.ensures c.count_entered.result
    c.count_entered.ensures c.refused.result c.walk_image.new.addresses c.args.stored.now c.walk_image.new.true_counts c.refused.ensures in
    record { block_count_bound = p.0; by_index = p.1 }

pub returns-in-Ok : goal.returns-in-Ok
returns-in-Ok c =
    let im = c.args.image.now in
    let ws = c.args.list.now in
    let s = c.args.superblock in
    let w = c.walk_image.new in
    let o = c.in-Ok.read in
    let h = c.in-Ok.ensures in
    let read = stored-taken w.addresses o.objects (listed im ws s o.block_count o.objects w.list w.addresses w.true_counts h) im _ _ c.read_stored.ensures in
    let p = done-is im ws s c.requires.bounded o.block_count o.objects w.list w.addresses w.true_counts h c.args.stored.now c.read_stored.new.stored
    c.requires.lists.stored_empty read c.no_block.result c.no_block.ensures in
    record { block_count_bound = p.0; by_index = p.1 }
