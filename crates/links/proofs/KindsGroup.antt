-- The kinds of the blocks that a group's walk enters: heap, segment, tree nodes, symbol table nodes.
use Prim.Native.Nat.{ℕ, zero, suc, ◌+◌}
use mathlib.Core.List.{List, []}
use lib.Dec.{leb, eqb}
use lib.ListN.{drop}
use Rattle.format.specs.Bytes.{u8, u16}
use Rattle.format.specs.Result.{Result}
use Rattle.format.specs.Walk.{Walk}
use Rattle.format.specs.Heap.{Heap, heap_walk}
use Rattle.format.specs.Names.{Bound}
use Rattle.format.specs.Entry.{Entry, Group, GroupState}
use Rattle.format.specs.Symbols.{entries, symbol_walk}
use Rattle.format.specs.Tree.{keys_walk, children, node_walk, branches, subtree, tree_walk, group_walk}
use Rattle.links.proofs.KindsEntered.{Enters, enters-bind, enters-check, entering}

module _ (K : ℕ → Type 0) (heap : K 4) (segment : K 5) (tree : K 6) (symbols : K 7) where
  heap-enters : (at : ℕ) → Enters K (heap_walk at)
  unfolding heap_walk
  heap-enters at = search entering depth 12

  keys-enter : (h : Heap) (n at : ℕ) (b : List ℕ) → Enters K (keys_walk h n at b)
  unfolding keys_walk
  keys-enter h zero at b = search entering
  keys-enter h (suc n) at b = let rest = keys-enter h n (at + 16) (drop 16 b) in search entering

  node-enters : (k at : ℕ) → Enters K (node_walk k at)
  unfolding node_walk
  node-enters k at = search entering depth 12

  module _ {S : Type 0} (g : Group S) where
    entries-enter : (bounds : List Bound) (n at : ℕ) (b : List ℕ) (s : GroupState S) → Enters K (entries g bounds n at b s)
    unfolding entries
    entries-enter bounds zero at b s = search entering
    entries-enter bounds (suc n) at b s = let rest = entries-enter bounds n (at + 40) (drop 40 b) in search entering

    symbol-enters : (at : ℕ) (bounds : List Bound) (s : GroupState S) → Enters K (symbol_walk g at bounds s)
    unfolding symbol_walk
    symbol-enters at bounds s = search (entering, entries-enter) depth 12

    module _ (h : Heap) (walk : ℕ → List Bound → GroupState S → Walk (GroupState S))
        (below : (at : ℕ) (bounds : List Bound) (s : GroupState S) → Enters K (walk at bounds s)) where
      children-enter : (n : ℕ) (b : List ℕ) (bounds : List Bound) (s : GroupState S) → Enters K (children h walk n b bounds s)
      unfolding children
      children-enter zero b bounds s = search entering
      children-enter (suc n) b bounds s = let rest = children-enter n (drop 16 b) bounds in search entering

      branches-enter : (at : ℕ) (b : List ℕ) (bounds : List Bound) (s : GroupState S) → Enters K (branches h walk at b bounds s)
      unfolding branches
      branches-enter at b bounds s = search (entering, keys-enter, children-enter)

    subtree-enters : (height at : ℕ) (bounds : List Bound) (s : GroupState S) → Enters K (subtree g height at bounds s)
    unfolding subtree
    subtree-enters zero at bounds s = symbol-enters at bounds s
    subtree-enters (suc level) at bounds s =
        enters-bind K (node_walk g.internal_k at) _ (node-enters g.internal_k at) λ b.
        enters-check K (eqb (u8 b 5) level) _ _
        (enters-check K (leb 1 (u16 b 6)) _ _ (branches-enter g.heap (subtree g level) (subtree-enters level) at b bounds s))

    tree-enters : (at : ℕ) (s : GroupState S) → Enters K (tree_walk g at s)
    unfolding tree_walk
    tree-enters at s =
        let rest : (level : ℕ) (b : List ℕ) → Enters K (branches g.heap (subtree g level) at b [] s) = λ level b. branches-enter g.heap
        (subtree g level) (subtree-enters level) at b [] s in
        search (entering, node-enters) depth 8

  pub group-enters : {S : Type 0} (leaf_k internal_k at heap_at : ℕ) (visit : Entry → S → Result S) (found : S) →
      Enters K (group_walk leaf_k internal_k at heap_at visit found)
  unfolding group_walk
  group-enters leaf_k internal_k at heap_at visit found = search (entering, heap-enters, tree-enters) depth 8
