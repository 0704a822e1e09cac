-- Every fault of an audit is met in a block that it has entered, and none has the number 13.
use Prim.Native.Nat.{ℕ, zero, suc, ◌+◌, ◌≤◌}
use mathlib.Core.List.{List, [], ◌∷◌}
use mathlib.Core.Path.{◌≡◌, refl}
use native.Mathlib.Omega.{arith}
use lib.ListN.{length, drop}
use Rattle.format.specs.Limits.{objects_most}
use Rattle.format.specs.Bytes.{with_first}
use Rattle.format.specs.Blocks.{Block, room_of}
use Rattle.format.specs.declared.Refusal.{Refusal}
use Rattle.format.specs.declared.Refusal.TheVariants.{Fault}
use Rattle.format.specs.Walk.{ret, refused, run, superblock_block, ◌>>=◌}
use Rattle.format.specs.Superblock.{Superblock, opened, open_image, superblock_walk}
use Rattle.format.specs.Header.{Object, group, dataset, committed}
use Rattle.format.specs.Ledger.{Linked, discover}
use Rattle.format.specs.Sharing.{Found, discover_sharing, known}
use Rattle.format.specs.Object.{content_walk, object_walk}
use Rattle.format.specs.Audit.{objects_walk, root_found, audit_walk}
use Rattle.walk.proofs.BlockList.{room_most}
use Rattle.laws.proofs.Growth.{run-grown}
use Rattle.links.specs.Placed.{HeldBy}
use Rattle.links.proofs.NumberedSharing.{discover-answered, sharing-answered, known-answered}
use Rattle.links.proofs.Opened.{opened-end}
use Rattle.links.proofs.RefusedFault.{refused-fault}
use Rattle.links.proofs.Placed.{Not13, not-13, Placed, Whatever, placed-bind, placed-ret, placed-block, placed-located}
use Rattle.links.proofs.KindsEntered.{enters-known}
use Rattle.links.proofs.PlacedRun.{Stopped, stopped-held, fault-placed}
use Rattle.links.proofs.PlacedHeader.{ObjectHeld, HeadedEnd, header-placed}
use Rattle.links.proofs.PlacedGroup.{group-placed}
use Rattle.links.proofs.PlacedDataset.{dataset-placed}

-- the numbers of discoveries, of sharings and of what is known of an object
three : Not13 3
three = not-13 3 refl

ten : Not13 10
ten = not-13 10 refl

twelve : Not13 12
twelve = not-13 12 refl

content-placed : (bs : List Block) (s : Superblock) (o : Object) (f : Found) → ObjectHeld bs o → Placed Whatever bs (content_walk s o f)
unfolding content_walk
content-placed bs s (group tree heap) f h =
    placed-bind Whatever _ bs _ _
    (group-placed s.leaf_k s.internal_k tree heap discover f.objects (discover-answered Not13 three ten twelve) bs)
    λ cs os _ _. placed-ret _ cs _ tt
content-placed bs s (dataset space type layout) f h = dataset-placed bs space type layout f h.0 h.1 h.2
content-placed bs s committed f h = placed-ret _ bs f tt

pub object-placed : (bs : List Block) (s : Superblock) (i at : ℕ) (f : Found) → Placed Whatever bs (object_walk s i at f)
unfolding object_walk
object-placed bs s i at f =
    placed-bind (HeadedEnd at) _ bs _ _ (header-placed discover_sharing (sharing-answered Not13 three ten twelve) bs at f) λ cs h _ p.
    placed-located _ cs at (known i h.object h.found) _ (known-answered Not13 three ten twelve i h.object h.found) p.0 λ g _.
    content-placed cs s h.object g p.1

objects-placed : (s : Superblock) (fuel i : ℕ) (f : Found) (bs : List Block) → Placed Whatever bs (objects_walk s fuel i f)
unfolding objects_walk
objects-placed s zero i f bs = placed-ret _ bs f tt
objects-placed s (suc fuel) i f bs = go (drop i f.objects) (objects-placed s fuel (i + 1))
  where
    go : (later : List Linked) → ((g : Found) (cs : List Block) → Placed Whatever cs (objects_walk s fuel (i + 1) g)) →
        Placed Whatever bs (with_first later (ret f) (λ o. object_walk s i o.address f >>= λ g. objects_walk s fuel (i + 1) g))
    go [] rest = placed-ret _ bs f tt
    go (o ∷ later) rest = placed-bind Whatever _ bs _ _ (object-placed bs s i o.address f) λ cs g _ _. rest g cs

superblock-placed : (s : Superblock) → Placed Whatever [] (superblock_walk s)
unfolding superblock_walk
superblock-placed s = placed-block _ [] superblock_block 0 s.size _ λ b bs _ _. placed-ret _ bs tt tt

walk-placed : (s : Superblock) → Placed Whatever [] (audit_walk s)
unfolding audit_walk
walk-placed s =
    placed-bind Whatever _ [] _ _ (superblock-placed s) λ bs _ _ _.
    placed-bind Whatever _ bs _ _ (objects-placed s objects_most 0 (root_found s) bs) λ cs f _ _.
    placed-ret _ cs _ tt

-- an audit that is refused
module _ (im : List ℕ) (lent : ℕ) (s : Superblock) (p : open_image im ≡ opened s) where
  pub audit-stopped : (r : Refusal) (bs : List Block) → run im s.end_of_file (room_of lent) (audit_walk s) [] ≡ refused r bs →
      Stopped s.end_of_file (room_of lent) bs r
  audit-stopped r bs e =
      let eof = s.end_of_file in
      let room = room_of lent in
      let known : ℕ → Type 0 = λ v. v ≤ 8 in
      let fits : length bs ≤ room = rw e at (run-grown im eof room (audit_walk s) [] (omega arith)).fits in
      let fault = refused-fault im eof room (audit_walk s) [] r bs e in
      let w = fault-placed im eof room (opened-end im s p) Whatever known [] [] fault refl (enters-known (audit_walk s)) (walk-placed s) in
      stopped-held known eof room bs r (omega (arith, fits, room_most lent)) (rw (← w.all) at w.stopped)

  pub audit-placed : (n at : ℕ) (bs : List Block) → run im s.end_of_file (room_of lent) (audit_walk s) [] ≡ refused (Fault n at) bs →
      HeldBy bs at × (n ≡ 13 → ⊥)
  audit-placed n at bs e =
      let met = audit-stopped (Fault n at) bs e in
      let fits : length bs ≤ room_of lent = rw e at (run-grown im s.end_of_file (room_of lent) (audit_walk s) [] (omega arith)).fits in
      (met.0, λ full. omega (arith, met.1 full, fits, room_most lent))
