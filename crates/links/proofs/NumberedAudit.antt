-- The numbers with which the audit's walk is refused: 3, 10, 13 in a header, 7, 8, 9 in a group, 11 in a dataset, 12 at a discovery.
use Prim.Native.Nat.{ℕ, zero, suc, ◌+◌}
use mathlib.Core.List.{List, [], ◌∷◌}
use lib.ListN.{drop}
use Rattle.format.specs.Bytes.{with_first}
use Rattle.format.specs.Walk.{ret, ◌>>=◌}
use Rattle.format.specs.Superblock.{Superblock, superblock_walk}
use Rattle.format.specs.Header.{Object, group, dataset, committed}
use Rattle.format.specs.Ledger.{Linked, discover}
use Rattle.format.specs.Sharing.{Found, discover_sharing}
use Rattle.format.specs.Object.{content_walk, object_walk}
use Rattle.format.specs.Audit.{objects_walk, audit_walk}
use Rattle.links.proofs.Numbered.{Numbered, numbered-bind, numbered-ret, numbers}
use Rattle.links.proofs.NumberedHeader.{visits-numbered}
use Rattle.links.proofs.NumberedSharing.{discover-answered, sharing-answered, known-answered}
use Rattle.links.proofs.NumberedDataset.{sharing-numbered}
use Rattle.links.proofs.NumberedGroup.{group-numbered}

-- the superblock's own block is all that its walk enters
pub superblock-numbered : (N : ℕ → Type 0) (s : Superblock) → Numbered N (superblock_walk s)
unfolding superblock_walk
superblock-numbered N s = search numbers depth 8

module _ (N : ℕ → Type 0) (three : N 3) (seven : N 7) (eight : N 8) (nine : N 9) (ten : N 10) (eleven : N 11) (twelve : N 12) (full : N 13) where
  content-numbered : (s : Superblock) (o : Object) (f : Found) → Numbered N (content_walk s o f)
  unfolding content_walk
  content-numbered s (group tree heap) f =
      numbered-bind N _ _ (group-numbered N seven eight nine s.leaf_k s.internal_k tree heap discover f.objects (discover-answered N three ten twelve))
      (λ os. numbered-ret N _)
  content-numbered s (dataset space type layout) f = sharing-numbered N three eleven ten twelve space type layout f
  content-numbered s committed f = numbered-ret N f

  object-numbered : (s : Superblock) (i at : ℕ) (f : Found) → Numbered N (object_walk s i at f)
  unfolding object_walk
  object-numbered s i at f =
      let header = visits-numbered N three ten full discover_sharing (sharing-answered N three ten twelve) at f in
      search (numbers, known-answered, content-numbered)

  objects-numbered : (s : Superblock) (fuel i : ℕ) (f : Found) → Numbered N (objects_walk s fuel i f)
  unfolding objects_walk
  objects-numbered s zero i f = search numbers
  objects-numbered s (suc fuel) i f = go (drop i f.objects) (objects-numbered s fuel (i + 1))
    where
      go : (left : List Linked) → ((g : Found) → Numbered N (objects_walk s fuel (i + 1) g)) →
          Numbered N (with_first left (ret f) (λ o. object_walk s i o.address f >>= λ g. objects_walk s fuel (i + 1) g))
      go [] rest = search numbers
      go (o ∷ later) rest = search (numbers, object-numbered)

  pub audit-numbered : (s : Superblock) → Numbered N (audit_walk s)
  unfolding audit_walk
  audit-numbered s = search (numbers, superblock-numbered, objects-numbered) depth 8
