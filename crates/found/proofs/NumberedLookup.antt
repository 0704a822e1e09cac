-- The numbers with which the walks of a lookup and of a description are refused: 3, 10, 13 in a header, 7, 8, 9 in a group, 17 where it isn't one, 15 and 16
-- at the name; 3, 11 in a dataset, 20 where it isn't one.
use Prim.Native.Nat.{ℕ}
use mathlib.Core.Bool.{Bool, true, false}
use mathlib.Core.List.{List, []}
use Rattle.format.specs.Walk.{◌>>◌}
use Rattle.format.specs.Superblock.{Superblock, superblock_walk}
use Rattle.format.specs.Header.{Object, group, dataset, committed, header_walk}
use Rattle.format.specs.Entry.{Entry}
use Rattle.format.specs.Lookup.{Link, absent, hard, soft, compare_name, find_walk, target_walk, component_walk, locate_walk}
use Rattle.format.specs.Describe.{dataset_of, describe_walk}
use Rattle.group.specs.Entries.{keep_entry, entries_walk}
use Rattle.links.proofs.Numbered.{Answered, Numbered, answers, numbers}
use Rattle.links.proofs.NumberedHeader.{header-numbered}
use Rattle.links.proofs.NumberedDataset.{dataset-numbered}
use Rattle.links.proofs.NumberedGroup.{group-numbered}
use Rattle.links.proofs.NumberedAudit.{superblock-numbered}
use Rattle.found.specs.Leads.{index_of, index_walk}

-- a header behind the superblock, for its kind
module _ (N : ℕ → Type 0) (three : N 3) (ten : N 10) (full : N 13) where
  header : (at : ℕ) → Numbered N (header_walk at)
  header = header-numbered N three ten full

  pub locate-numbered : (s : Superblock) (at : ℕ) → Numbered N (superblock_walk s >> locate_walk at)
  unfolding locate_walk
  locate-numbered s at = search (numbers, superblock-numbered, header)

  -- a description
  module _ (eleven : N 11) (other : N 20) where
    dataset-of-numbered : (o : Object) → Numbered N (dataset_of o)
    unfolding dataset_of
    dataset-of-numbered (group tree heap) = search numbers
    dataset-of-numbered (dataset space type layout) = dataset-numbered N three eleven space type layout
    dataset-of-numbered committed = search numbers

    pub describe-numbered : (s : Superblock) (at : ℕ) → Numbered N (superblock_walk s >> describe_walk at)
    unfolding describe_walk
    describe-numbered s at = search (numbers, superblock-numbered, header, dataset-of-numbered)

  -- a group
  module _ (seven : N 7) (eight : N 8) (nine : N 9) (inner : N 17) where
    keep-answered : (e : Entry) (es : List Entry) → Answered N (keep_entry e es)
    unfolding keep_entry
    keep-answered e es = search answers

    index-of-numbered : (s : Superblock) (o : Object) → Numbered N (index_of s o)
    unfolding index_of entries_walk
    index-of-numbered s (group tree heap) = group-numbered N seven eight nine s.leaf_k s.internal_k tree heap keep_entry [] keep-answered
    index-of-numbered s (dataset space type layout) = search numbers
    index-of-numbered s committed = search numbers

    pub index-numbered : (s : Superblock) (at : ℕ) → Numbered N (index_walk s at)
    unfolding index_walk
    index-numbered s at = search (numbers, superblock-numbered, header, index-of-numbered)

    compare-answered : (name : List ℕ) (e : Entry) (l : Link) → Answered N (compare_name name e l)
    unfolding compare_name
    compare-answered name e l = search answers

    find-numbered : (s : Superblock) (name : List ℕ) (o : Object) → Numbered N (find_walk s name o)
    unfolding find_walk
    find-numbered s name (group tree heap) =
        group-numbered N seven eight nine s.leaf_k s.internal_k tree heap (compare_name name) absent (compare-answered name)
    find-numbered s name (dataset space type layout) = search numbers
    find-numbered s name committed = search numbers

    module _ (absence : N 15) (early : N 16) where
      target-numbered : (is_last : Bool) (l : Link) → Numbered N (target_walk is_last l)
      unfolding target_walk
      target-numbered is_last absent = search numbers
      target-numbered is_last (hard a) = search numbers
      target-numbered true soft = search numbers
      target-numbered false soft = search numbers

      pub component-numbered : (s : Superblock) (name : List ℕ) (is_last : Bool) (at : ℕ) → Numbered N (component_walk s name is_last at)
      unfolding component_walk
      component-numbered s name is_last at = search (numbers, superblock-numbered, header, find-numbered, target-numbered) depth 8
