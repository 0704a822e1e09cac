-- Every true count of an audit that is done is at most the end of file, and so fits four bytes: there are no more links and sharings than bytes in the
-- blocks entered, which share no byte and lie inside the end of file.
use Prim.Native.Nat.{ℕ, zero, suc, ◌+◌, ◌^◌, ◌≤◌, ◌<◌}
use mathlib.Core.List.Memᴰ
use mathlib.Core.List.{List, [], ◌∷◌, Memᴰ}
use mathlib.Core.Logic.{⊎_elim}
use mathlib.Core.Path.{◌≡◌, ap}
use native.Mathlib.Omega.{arith}
use lib.ListN.{length, drop}
use Rattle.format.specs.Limits.{objects_most}
use Rattle.format.specs.Bytes.{with_first}
use Rattle.format.specs.Blocks.{Block, room_of}
use Rattle.format.specs.Walk.{superblock_block, fixed, ret, ◌>>=◌, done}
use Rattle.format.specs.Superblock.{Superblock, opened, open_image, superblock_walk}
use Rattle.format.specs.Message.{Message}
use Rattle.format.specs.Header.{Object, group, dataset, committed}
use Rattle.format.specs.Dataset.{head_at}
use Rattle.format.specs.Ledger.{Linked, discover}
use Rattle.format.specs.Sharing.{Found, share_each, discover_sharing, shared_by}
use Rattle.format.specs.Object.{sharing_dataset, content_walk, object_walk}
use Rattle.format.specs.Audit.{objects_walk, root_found, audit_walk, audit_run}
use Rattle.walk.specs.Lent.{length_sum}
use Rattle.laws.proofs.ImageLength.{image-small}
use Rattle.laws.proofs.SumOfLengths.{lengths-inside}
use Rattle.ledger.specs.Links.{link_sum}
use Rattle.links.proofs.AuditSound.{audit-opened, audit-blocks}
use Rattle.links.proofs.Opened.{opened-end, opened-size}
use Rattle.found.proofs.Replayed.{audit-walked}
use Rattle.demand.proofs.Opened.{opened-range}
use Rattle.demand.proofs.Rises.{Rises, rises-ret, rises-located, rises-least, rises-enter, rises-after, rises-then, rises-on}
use Rattle.demand.proofs.SharingRises.{total, visit-rises, shares-rise, message-rises, type-one, known-rises}
use Rattle.demand.proofs.HeaderRises.{header-rises}
use Rattle.demand.proofs.GroupRises.{group-rises}

-- a count is at most the sum of all
links-most : (os : List Linked) (o : Linked) → Memᴰ o os → o.links ≤ link_sum os
unfolding link_sum
links-most [] o m = absurd (Memᴰ.not-nil m)
links-most (p ∷ os) o m = ⊎_elim (λ same. omega (arith, ap (λ (x : Linked). x.links) same)) (λ i. omega (arith, links-most os o i)) (Memᴰ.cases_cons m)

module _ (im : List ℕ) (eof room : ℕ) where
  dataset-rises : (space type layout : Message) (f : Found) → Rises im eof room total (sharing_dataset space type layout f) (total f + 1)
  unfolding sharing_dataset
  dataset-rises space type layout f =
      rises-after im eof room total _ _ _ λ d.
      rises-after im eof room total _ _ _ λ t.
      rises-on im eof room total total _ _ _
      (rises-located im eof room total (head_at type) (share_each (shared_by t) f) (total f + 1) λ f' e.
      omega (arith, shares-rise (shared_by t) f f' e, type-one t))
      λ f'. rises-after im eof room total _ _ _ λ _. rises-ret im eof room total f' _ (omega arith)

  -- behind the header a dataset's sharing isn't paid for by a block
  content-rises : (s : Superblock) (o : Object) (f : Found) → Rises im eof room total (content_walk s o f) (total f + 1)
  unfolding content_walk
  content-rises s (group tree heap) f =
      rises-on im eof room link_sum total _ _ _
      (rises-least im eof room link_sum _ _ _ (omega arith) (group-rises im eof room link_sum discover visit-rises s.leaf_k s.internal_k tree heap
      f.objects))
      λ os. rises-ret im eof room total _ _ (omega arith)
  content-rises s (dataset space type layout) f = dataset-rises space type layout f
  content-rises s committed f = rises-ret im eof room total f _ (omega arith)

  -- the 16 bytes before a header's messages pay for it
  object-rises : (s : Superblock) (i at : ℕ) (f : Found) → Rises im eof room total (object_walk s i at f) (total f)
  unfolding object_walk
  object-rises s i at f =
      rises-on im eof room (λ h. total h.found + 16) total _ _ _ (header-rises im eof room total discover_sharing message-rises at f) λ h.
      rises-least im eof room total _ (total h.found + 1) _ (omega arith)
      (rises-then im eof room total total _ _ (total h.found) 1 (rises-located im eof room total at _ _ (known-rises i h.object h.found))
      λ f'. content-rises s h.object f')

  objects-rise : (s : Superblock) (fuel i : ℕ) (f : Found) → Rises im eof room total (objects_walk s fuel i f) (total f)
  unfolding objects_walk
  objects-rise s zero i f = rises-ret im eof room total f (total f) (omega arith)
  objects-rise s (suc fuel) i f = go (drop i f.objects) (objects-rise s fuel (i + 1))
    where
      go : (left : List Linked) → ((g : Found) → Rises im eof room total (objects_walk s fuel (i + 1) g) (total g)) →
          Rises im eof room total (with_first left (ret f) (λ o. object_walk s i o.address f >>= λ g. objects_walk s fuel (i + 1) g)) (total f)
      go [] rest = rises-ret im eof room total f (total f) (omega arith)
      go (o ∷ later) rest = rises-on im eof room total total (object_walk s i o.address f) _ (total f) (object-rises s i o.address f) rest

  -- the superblock's block has a byte for the root's first link
  audit-rises : (s : Superblock) → 1 ≤ s.size → Rises im eof room link_sum (audit_walk s) 0
  unfolding audit_walk superblock_walk link_sum ◌>>=◌
  audit-rises s l =
      rises-enter im eof room link_sum superblock_block 0 (fixed s.size) _ 0
      (rises-least im eof room link_sum _ 1 _ (omega arith)
      (rises-on im eof room total link_sum (objects_walk s objects_most 0 (root_found s)) (λ f. ret f.objects) 1 (objects-rise s objects_most 0 (root_found s))
      λ f. rises-ret im eof room link_sum f.objects _ (omega arith)))

module _ (im : List ℕ) (lent : ℕ) (s : Superblock) (os : List Linked) (bs : List Block) (p : open_image im ≡ opened s)
    (e : audit_run im lent ≡ done os bs) where
  -- all links and sharings are at most the lengths of the blocks entered
  pub all-inside : link_sum os ≤ length_sum bs
  unfolding length_sum
  all-inside =
      let sized : 1 ≤ s.size = omega (arith, opened-size im s p) in
      omega (arith, audit-rises im s.end_of_file (room_of lent) s sized [] os bs (audit-walked im lent s os bs p e))

  -- a true count is at most the end of file
  pub count-inside : (o : Linked) → Memᴰ o os → o.links ≤ s.end_of_file
  count-inside o m =
      let b = audit-blocks im lent s os bs p e in
      omega (arith, links-most os o m, all-inside, lengths-inside s.end_of_file bs b.0 b.1)

  -- the true counts of an audit fit four bytes
  pub counts-small : (o : Linked) → Memᴰ o os → o.links < 2 ^ 32
  counts-small o m = omega (arith, count-inside o m, opened-end im s p, image-small (length im) (opened-range im s p))

-- and so at most the image's length
pub count-at-most : (im : List ℕ) (lent : ℕ) (os : List Linked) (bs : List Block) → audit_run im lent ≡ done os bs →
    (o : Linked) → Memᴰ o os → o.links ≤ length im
count-at-most im lent os bs e o m =
    let p = audit-opened im lent os bs e in
    omega (arith, count-inside im lent p.0 os bs p.1 e o m, opened-end im p.0 p.1)
