-- Dataspace and datatype, the sharing, then layout and data.
use Prim.Native.Nat.{ℕ, ◌-◌}
use mathlib.Core.Path.{◌≡◌}
use native.Mathlib.Omega.{arith}
use Rattle.std.specs.Prelude.{Ok, Err}
use Rattle.std.proofs.lemmas.Result.{err_from_is_err_and}
use Rattle.format.specs.Walk.{fault}
use Rattle.dataset.specs.Dataset.{body_of, parts_of}
use Rattle.sharing.proofs.SharingLaws.{found-counting}
use Rattle.object.proofs.ObjectLaws.{parts-refused, sharing-refused, storage-stopped, storage-read}
use Rattle.object.proofs.object.read_dataset.Goals as goal

pub share_type-requires : goal.share_type-requires
share_type-requires c = found-counting.fits c.args.found.now _ _ _ 1 (omega arith) c.requires.listed.counting

pub read_storage-requires : goal.read_storage-requires
read_storage-requires c = rw c.bounds.ensures (record {
  lent = c.requires.listed.lent;
  storage_inside = record {
    space_inside = c.requires.bodies_inside.space_inside;
    layout_inside = c.requires.bodies_inside.layout_inside;
    shaped = c.in_ok-parts.ensures.parts_shaped;
  };
})

pub returns-in_err-parts-clause-walked : goal.returns-in_err-parts-clause-walked
returns-in_err-parts-clause-walked c =
    let p = err_from_is_err_and c.from_residual.result c.from_residual.ensures.1 in
    rw (p.1, p.2) (parts-refused _ c.args.file.superblock _ _ _ _ _ _ _ c.requires.listed _ _ _ _ c.in_err-parts.ensures.result_value)

pub returns-in_err-map_err-clause-walked : goal.returns-in_err-map_err-clause-walked
returns-in_err-map_err-clause-walked c =
    let p = err_from_is_err_and c.from_residual-in_err-map_err.result c.from_residual-in_err-map_err.ensures.1 in
    let f : (n : ℕ) × (c.share_type.result ≡ Err n) × (c.in_err-map_err.field-0.0 ≡ fault n (c.args.bodies.datatype.place - 8)) = grind arith in
    let s = rw f.1 at c.share_type.ensures.shared in
    rw (p.1, p.2, f.2)
    (sharing-refused _ c.args.file.superblock _ _ _ _ _ _ _ c.requires.listed _ _ _
    (parts_of (body_of c.args.file.image.now c.args.bodies.space) c.in_ok-parts.parts) c.in_ok-parts.ensures.result_value _ _ _ _ s.walk)

pub returns-in_err-read_storage-clause-walked : goal.returns-in_err-read_storage-clause-walked
returns-in_err-read_storage-clause-walked c =
    let p = err_from_is_err_and c.from_residual-in_err-read_storage.result c.from_residual-in_err-read_storage.ensures.1 in
    let f : c.share_type.result ≡ Ok tt = grind arith in
    let s = rw f at c.share_type.ensures.shared in
    rw (p.1, p.2)
    (storage-stopped _ c.args.file.superblock _ _ _ _ _ _ _ c.requires.listed _ _ _
    (parts_of (body_of c.args.file.image.now c.args.bodies.space) c.in_ok-parts.parts) c.in_ok-parts.ensures.result_value _ _ _ _ s.walk _ _
    (rw c.bounds.ensures at c.in_err-read_storage.ensures.walked))

pub returns-clause-walked : goal.returns-clause-walked
returns-clause-walked c =
    let f : c.share_type.result ≡ Ok tt = grind arith in
    let s = rw f at c.share_type.ensures.shared in
    storage-read _ c.args.file.superblock _ _ _ _ _ _ _ c.requires.listed _ _ _
    (parts_of (body_of c.args.file.image.now c.args.bodies.space) c.in_ok-parts.parts) c.in_ok-parts.ensures.result_value _ _ _ _ s.walk _ _ _
    c.read_storage.ensures.kept.long (rw c.bounds.ensures at c.in_ok-read_storage.ensures.walked) s.kept
