-- Opening, walking and reading the stored counts, each against its part of the definition.
use Prim.Native.Nat.{ℕ}
use mathlib.Core.Path.{◌≡◌, refl}
use native.Mathlib.Omega.{arith}
use Rattle.std.specs.Prelude.{Ok, Err}
use Rattle.std.proofs.lemmas.Result.{err_from_is_err_and}
use Rattle.format.specs.Walk.{fault}
use lib.Seq.{length-take-le}
use Rattle.ledger.proofs.ReportLaws.{readable-taken, stored-taken}
use Rattle.audit.proofs.ReplyLaws.{not-opened-is, stopped-is, listed, readable, count_fits, done-is, lists-table, stored-room}
use Rattle.audit.proofs.audit_into.Goals as goal

pub walk_image-requires : goal.walk_image-requires
walk_image-requires c =
    let o : c.open.result ≡ Ok c.in_ok-superblock.superblock = grind arith in
    record { bounded = rw o at c.open.ensures.fields_bounded; table = lists-table _ _ _ c.requires }

pub slice_bounds-read_stored-end : goal.slice_bounds-read_stored-end
slice_bounds-read_stored-end c =
    let a = c.in_ok-audited.audited in
    let w = c.walk_image.new in
    listed c.args.image.now c.args.list.now c.in_ok-superblock.superblock a.block_count a.objects w.list w.addresses w.true_counts c.in_ok-audited.ensures

pub read_stored-requires : goal.read_stored-requires
read_stored-requires c =
    let s = c.in_ok-superblock.superblock in
    let a = c.in_ok-audited.audited in
    let w = c.walk_image.new in
    let o : c.open.result ≡ Ok s = grind arith in
    let r = readable c.args.image.now c.args.list.now s a.block_count a.objects w.list w.addresses w.true_counts c.in_ok-audited.ensures
    (rw o at c.open.ensures.fields_bounded) in
    record {
      readable = readable-taken w.addresses a.objects r.listed c.args.image.now r;
      stored_fit = rw (length-take-le a.objects w.addresses r.listed) (stored-room _ _ _ _ c.requires c.in_ok-audited.ensures.ready.table.fits);
    }

pub returns-in_err-superblock : goal.returns-in_err-superblock
returns-in_err-superblock c =
    let p = err_from_is_err_and c.from_residual.result c.from_residual.ensures.1 in
    let f : (x : ℕ) × (c.open.result ≡ Err x) × (c.in_err-superblock.field-0.0 ≡ fault x 0) = grind arith in
    let o = rw f.1 at c.open.ensures.result_value in
    rw (p.1, p.2, f.2)
    (record { block_count_bound = tt; by_index = λ lent fit. not-opened-is c.args.image.now lent c.args.list.now _ _ _ f.0 o })

pub returns-in_err-audited : goal.returns-in_err-audited
returns-in_err-audited c =
    let s = c.in_ok-superblock.superblock in
    let o : c.open.result ≡ Ok s = grind arith in
    let p = err_from_is_err_and c.from_residual-in_err-audited.result c.from_residual-in_err-audited.ensures.1 in
    let opened = rw o at c.open.ensures.result_value in
    rw (p.1, p.2)
    (record { block_count_bound = tt; by_index = stopped-is c.args.image.now c.args.list.now s _ _ _ _ _ opened c.in_err-audited.ensures })

pub returns : goal.returns
returns c =
    let im = c.args.image.now in
    let ws = c.args.list.now in
    let s = c.in_ok-superblock.superblock in
    let a = c.in_ok-audited.audited in
    let w = c.walk_image.new in
    let h = c.in_ok-audited.ensures in
    let o : c.open.result ≡ Ok s = grind arith in
    let read = stored-taken w.addresses a.objects (listed im ws s a.block_count a.objects w.list w.addresses w.true_counts h) im _ _ c.read_stored.ensures in
    record {
      block_count_bound = count_fits im ws s a.block_count a.objects w.list w.addresses w.true_counts h;
      by_index = done-is im ws s a.block_count a.objects w.list w.addresses w.true_counts h (rw o at c.open.ensures.result_value)
          (rw o at c.open.ensures.fields_bounded) _ _ c.requires.stored_empty read;
    }
