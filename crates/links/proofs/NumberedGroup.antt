-- The numbers with which reading a group is refused: 7, 8, 9, and those of its visits.
use Prim.Native.Nat.{ℕ, zero, suc, ◌+◌}
use mathlib.Core.List.{List, [], ◌∷◌, ◌++◌}
use lib.Dec.{leb, eqb}
use lib.ListN.{drop}
use Rattle.format.specs.Bytes.{u8, u16, u64}
use Rattle.format.specs.Blocks.{Block, block}
use Rattle.format.specs.Result.{Result}
use Rattle.format.specs.Walk.{Walk}
use Rattle.format.specs.FreeList.{free_blocks, free_list}
use Rattle.format.specs.Heap.{Heap, heap_walk}
use Rattle.format.specs.Names.{Bound}
use Rattle.format.specs.Entry.{Entry, Group, GroupState, read_value, read_entry}
use Rattle.format.specs.Symbols.{entries, symbol_walk}
use Rattle.format.specs.Tree.{keys_walk, children, node_walk, branches, subtree, tree_walk, group_walk}
use Rattle.links.proofs.Numbered.{Answered, Numbered, answers, numbered-bind, numbered-check, numbers}

module _ (N : ℕ → Type 0) (seven : N 7) (eight : N 8) (nine : N 9) where
  free-answered : (fuel : ℕ) (seg : List ℕ) (off : ℕ) (met : List Block) → Answered N (free_blocks fuel seg off met)
  unfolding free_blocks
  free-answered zero seg off met = search answers
  free-answered (suc fuel) seg off met =
      let rest = free-answered fuel seg (u64 seg off) (met ++ (block off (u64 seg (off + 8)) ∷ [])) in
      search answers depth 12

  pub list-answered : (seg : List ℕ) (head : ℕ) → Answered N (free_list seg head)
  unfolding free_list
  list-answered seg head = search (answers, free-answered)

  heap-numbered : (at : ℕ) → Numbered N (heap_walk at)
  unfolding heap_walk
  heap-numbered at = search (numbers, list-answered) depth 12

  keys-numbered : (h : Heap) (n at : ℕ) (b : List ℕ) → Numbered N (keys_walk h n at b)
  unfolding keys_walk
  keys-numbered h zero at b = search numbers
  keys-numbered h (suc n) at b = let rest = keys-numbered h n (at + 16) (drop 16 b) in search numbers

  value-answered : (h : Heap) (b : List ℕ) → Answered N (read_value h b)
  unfolding read_value
  value-answered h b = search answers

  node-numbered : (k at : ℕ) → Numbered N (node_walk k at)
  unfolding node_walk
  node-numbered k at = search numbers depth 12

  -- a group whose visits have such numbers only
  module _ {S : Type 0} (g : Group S) (visited : (e : Entry) (s : S) → Answered N (g.visit e s)) where
    pub entry-answered : (bounds : List Bound) (b : List ℕ) (s : GroupState S) → Answered N (read_entry g bounds b s)
    unfolding read_entry
    entry-answered bounds b s = search (answers, value-answered) depth 12

    entries-numbered : (bounds : List Bound) (n at : ℕ) (b : List ℕ) (s : GroupState S) → Numbered N (entries g bounds n at b s)
    unfolding entries
    entries-numbered bounds zero at b s = search numbers
    entries-numbered bounds (suc n) at b s = let rest = entries-numbered bounds n (at + 40) (drop 40 b) in search (numbers, entry-answered)

    symbol-numbered : (at : ℕ) (bounds : List Bound) (s : GroupState S) → Numbered N (symbol_walk g at bounds s)
    unfolding symbol_walk
    symbol-numbered at bounds s = search (numbers, entries-numbered) depth 12

    module _ (h : Heap) (walk : ℕ → List Bound → GroupState S → Walk (GroupState S))
        (below : (at : ℕ) (bounds : List Bound) (s : GroupState S) → Numbered N (walk at bounds s)) where
      children-numbered : (n : ℕ) (b : List ℕ) (bounds : List Bound) (s : GroupState S) → Numbered N (children h walk n b bounds s)
      unfolding children
      children-numbered zero b bounds s = search numbers
      children-numbered (suc n) b bounds s = let rest = children-numbered n (drop 16 b) bounds in search numbers

      branches-numbered : (at : ℕ) (b : List ℕ) (bounds : List Bound) (s : GroupState S) → Numbered N (branches h walk at b bounds s)
      unfolding branches
      branches-numbered at b bounds s = search (numbers, keys-numbered, children-numbered)

    subtree-numbered : (height at : ℕ) (bounds : List Bound) (s : GroupState S) → Numbered N (subtree g height at bounds s)
    unfolding subtree
    subtree-numbered zero at bounds s = symbol-numbered at bounds s
    subtree-numbered (suc level) at bounds s =
        numbered-bind N (node_walk g.internal_k at) _ (node-numbered g.internal_k at) λ b.
        numbered-check N (eqb (u8 b 5) level) 8 at _ eight
        (numbered-check N (leb 1 (u16 b 6)) 8 at _ eight
        (branches-numbered g.heap (subtree g level) (subtree-numbered level) at b bounds s))

    tree-numbered : (at : ℕ) (s : GroupState S) → Numbered N (tree_walk g at s)
    unfolding tree_walk
    tree-numbered at s =
        let rest : (level : ℕ) (b : List ℕ) → Numbered N (branches g.heap (subtree g level) at b [] s) = λ level b. branches-numbered g.heap
        (subtree g level) (subtree-numbered level) at b [] s in
        search (numbers, node-numbered) depth 8

  pub group-numbered : {S : Type 0} (leaf_k internal_k tree heap : ℕ) (visit : Entry → S → Result S) (found : S) →
      ((e : Entry) (s : S) → Answered N (visit e s)) →
      Numbered N (group_walk leaf_k internal_k tree heap visit found)
  unfolding group_walk
  group-numbered leaf_k internal_k tree heap visit found visited = search (numbers, heap-numbered, tree-numbered) depth 8
