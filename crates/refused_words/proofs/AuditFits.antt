-- The block that an audit can't enter has an address and a length of 64 bits, on every image of bytes.
use Prim.Native.Nat.{ℕ, zero, suc, ◌+◌, ◌^◌, ◌≤◌, ◌<◌}
use mathlib.Core.List.{List, [], ◌∷◌}
use mathlib.Core.Path.{◌≡◌}
use native.Mathlib.Omega.{arith}
use lib.ListN.{drop}
use Rattle.format.specs.Limits.{objects_most}
use Rattle.format.specs.Bytes.{with_first}
use Rattle.format.specs.Blocks.{Block, room_of}
use Rattle.format.specs.declared.Refusal.TheVariants.{NotEntered}
use Rattle.format.specs.Walk.{ret, refused, run, superblock_block, ◌>>=◌}
use Rattle.format.specs.Superblock.{Superblock, opened, version_shift, superblock_fields, open_image, superblock_walk}
use Rattle.format.specs.Header.{Object, group, dataset, committed}
use Rattle.format.specs.Ledger.{Linked, discover}
use Rattle.format.specs.Sharing.{Found, discover_sharing, known}
use Rattle.format.specs.Object.{content_walk, object_walk}
use Rattle.format.specs.Audit.{objects_walk, root_found, audit_walk}
use Rattle.laws.proofs.Opening.{opened-tested}
use Rattle.links.proofs.Opened.{shift-most}
use Rattle.links.proofs.RefusedFault.{refused-fault}
use Rattle.links.proofs.Gives.{Whatever}
use Rattle.demand.specs.Bytes.{IsBytes}
use Rattle.refused_words.specs.Words.{IsWord}
use Rattle.refused_words.proofs.ReadWords.{u16-small, u64-word}
use Rattle.refused_words.proofs.Fits.{Fits, fits-bind, fits-ret, fits-block, fits-located}
use Rattle.refused_words.proofs.FitsRun.{fault-fits}
use Rattle.refused_words.proofs.FitsHeader.{ObjectFits, HeadedFits, header-fits}
use Rattle.refused_words.proofs.FitsGroup.{group-fits}
use Rattle.refused_words.proofs.LedgerWords.{Addresses, FoundFits, drop-addresses, discover-gives, sharing-gives, known-gives}
use Rattle.refused_words.proofs.FitsDataset.{dataset-fits}

-- what a superblock says fits its fields
record SuperblockFits (s : Superblock) : Type 0 where
  size_word : IsWord s.size
  leaf_small : s.leaf_k < 2 ^ 16
  internal_small : s.internal_k < 2 ^ 16
  root_word : IsWord s.root

fields_fit : (im : List ℕ) → IsBytes im → SuperblockFits (superblock_fields im)
unfolding superblock_fields
fields_fit im i = record {
  size_word = omega (arith, shift-most im);
  leaf_small = u16-small im 16 i;
  internal_small = u16-small im 18 i;
  root_word = u64-word im (64 + version_shift im) i;
}

module _ (s : Superblock) (h : SuperblockFits s) where
  content-fits : (o : Object) (f : Found) → ObjectFits o → FoundFits f → Fits FoundFits (content_walk s o f)
  unfolding content_walk
  content-fits (group tree heap) f p q =
      fits-bind Addresses _ _ _
      (group-fits Addresses s.leaf_k s.internal_k tree heap discover f.objects discover-gives h.leaf_small h.internal_small p.0 p.1 q)
      λ os r. fits-ret FoundFits _ r
  content-fits (dataset space type layout) f p q = dataset-fits space type layout f p.0 p.1 q
  content-fits committed f p q = fits-ret FoundFits f q

  object-fits : (i at : ℕ) (f : Found) → IsWord at → FoundFits f → Fits FoundFits (object_walk s i at f)
  unfolding object_walk
  object-fits i at f a q =
      fits-bind (HeadedFits FoundFits) _ _ _ (header-fits FoundFits discover_sharing sharing-gives at f a q) λ o p.
      fits-located _ FoundFits at (known i o.object o.found) _ (known-gives i o.object o.found p.1) λ g r.
      content-fits o.object g p.0 r

  objects-fit : (fuel i : ℕ) (f : Found) → FoundFits f → Fits FoundFits (objects_walk s fuel i f)
  unfolding objects_walk
  objects-fit zero i f q = fits-ret FoundFits f q
  objects-fit (suc fuel) i f q = go (drop i f.objects) (drop-addresses i f.objects q) (objects-fit fuel (i + 1))
    where
      go : (later : List Linked) → Addresses later → ((g : Found) → FoundFits g → Fits FoundFits (objects_walk s fuel (i + 1) g)) →
          Fits FoundFits (with_first later (ret f) (λ o. object_walk s i o.address f >>= λ g. objects_walk s fuel (i + 1) g))
      go [] a rest = fits-ret FoundFits f q
      go (o ∷ later) a rest = fits-bind FoundFits _ _ _ (object-fits i o.address f a.0 q) rest

  walk-fits : Fits Whatever (audit_walk s)
  unfolding audit_walk superblock_walk
  walk-fits =
      fits-bind Whatever _ _ _ (fits-block _ superblock_block 0 s.size _ (omega arith) h.size_word (λ b _. fits-ret _ tt tt)) λ _ _.
      fits-bind FoundFits _ _ _ (objects-fit objects_most 0 (root_found s) (h.root_word, tt)) λ f _.
      fits-ret _ _ tt

pub audit-fits : (im : List ℕ) (lent : ℕ) (s : Superblock) → IsBytes im → open_image im ≡ opened s → (n kind a size met : ℕ) (bs : List Block) →
    run im s.end_of_file (room_of lent) (audit_walk s) [] ≡ refused (NotEntered n kind a size met) bs → IsWord a × IsWord size × (kind ≤ 8)
audit-fits im lent s i p n kind a size met bs e =
    let same : superblock_fields im ≡ s = (opened-tested im s p).1 in
    let h : SuperblockFits s = rw same at (fields_fit im i) in
    fault-fits im s.end_of_file (room_of lent) i Whatever
    (refused-fault im s.end_of_file (room_of lent) (audit_walk s) [] (NotEntered n kind a size met) bs e) (walk-fits s h)
