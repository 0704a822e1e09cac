-- The faults of a group are met in its heap, its tree nodes and its symbol table nodes.
use Prim.Native.Nat.{ℕ, zero, suc, ◌+◌, ◌*◌, ◌≤◌}
use mathlib.Core.List.{List, []}
use mathlib.Core.Path.{refl}
use native.Mathlib.Omega.{arith}
use lib.Dec.{leb, eqb}
use lib.ListN.{drop}
use Rattle.format.specs.Bytes.{in_range, u8, u16, u32}
use Rattle.format.specs.Blocks.{Block}
use Rattle.format.specs.Result.{Result}
use Rattle.format.specs.Walk.{Walk, symbol_block}
use Rattle.format.specs.Heap.{Heap}
use Rattle.format.specs.Names.{Bound}
use Rattle.format.specs.Entry.{Entry, Group, GroupState, read_entry}
use Rattle.format.specs.Symbols.{SNOD, entries, symbol_walk}
use Rattle.format.specs.Tree.{children, branches, subtree, tree_walk, group_walk}
use Rattle.walk.proofs.Tests.{range-most}
use Rattle.links.proofs.Numbered.{Answered}
use Rattle.links.proofs.NumberedGroup.{entry-answered}
use Rattle.links.proofs.PlacedBlocks.{HeldUpTo}
use Rattle.links.proofs.Placed.{Not13, not-13, Placed, Whatever, placed-bind, placed-ret, placed-block, placed-check, placed-if, placed-located}
use Rattle.links.proofs.PlacedNode.{NodeEnd, heap-placed, keys-placed, node-placed}

module _ {S : Type 0} (g : Group S) (visited : (e : Entry) (s : S) → Answered Not13 (g.visit e s)) where
  entries-placed : (bs : List Block) (bounds : List Bound) (e n at : ℕ) (b : List ℕ) (s : GroupState S) → HeldUpTo bs at e → at + 40 * n ≤ e →
      Placed Whatever bs (entries g bounds n at b s)
  unfolding entries
  entries-placed bs bounds e zero at b s held l = placed-ret _ bs _ tt
  entries-placed bs bounds e (suc n) at b s held l =
      placed-located _ bs at (read_entry g bounds b s) _ (entry-answered Not13 (not-13 7 refl) (not-13 8 refl) (not-13 9 refl) g visited bounds b s)
      (held at (omega arith) (omega (arith, l)))
      λ next _. entries-placed bs bounds e n (at + 40) (drop 40 b) next (λ x m k. held x (omega arith) k) (omega (arith, l))

  symbol-placed : (bs : List Block) (at : ℕ) (bounds : List Bound) (s : GroupState S) → Placed Whatever bs (symbol_walk g at bounds s)
  unfolding symbol_walk
  symbol-placed bs at bounds s =
      placed-block _ bs symbol_block at (8 + 80 * g.leaf_k) _ λ b cs _ node.
      let held = node.held at (omega arith) (omega arith) in
      placed-check _ cs (eqb (u32 b 0) SNOD) 7 at _ refl held λ _.
      placed-check _ cs (eqb (u8 b 4) 1) 7 at _ refl held λ _.
      placed-check _ cs (in_range 1 (2 * g.leaf_k) (u16 b 6)) 8 at _ refl held λ t.
      entries-placed cs bounds (at + (8 + 80 * g.leaf_k)) (u16 b 6) (at + 8) (drop 8 b) s
      (λ x m k. node.held x (omega arith) k) (omega (arith, range-most 1 (2 * g.leaf_k) (u16 b 6) t))

  module _ (h : Heap) (walk : ℕ → List Bound → GroupState S → Walk (GroupState S))
      (below : (bs : List Block) (at : ℕ) (bounds : List Bound) (s : GroupState S) → Placed Whatever bs (walk at bounds s)) where
    children-placed : (bs : List Block) (n : ℕ) (b : List ℕ) (bounds : List Bound) (s : GroupState S) → Placed Whatever bs (children h walk n b bounds s)
    unfolding children
    children-placed bs zero b bounds s = placed-ret _ bs s tt
    children-placed bs (suc n) b bounds s =
        placed-bind Whatever _ bs _ _ (below bs _ _ s) λ cs next _ _.
        children-placed cs n (drop 16 b) bounds next

    branches-placed : (bs : List Block) (k at : ℕ) (b : List ℕ) (bounds : List Bound) (s : GroupState S) → NodeEnd k at bs b →
        Placed Whatever bs (branches h walk at b bounds s)
    unfolding branches
    branches-placed bs k at b bounds s node =
        placed-bind Whatever _ bs _ _
        (keys-placed bs h (at + (32 + 32 * k)) (u16 b 6 + 1) (at + 24) (drop 24 b) (λ x m l. node.1 x (omega arith) l) (omega (arith, node.0)))
        λ cs _ _ _. children-placed cs (u16 b 6) (drop 24 b) bounds s

  subtree-placed : (height : ℕ) (bs : List Block) (at : ℕ) (bounds : List Bound) (s : GroupState S) → Placed Whatever bs (subtree g height at bounds s)
  unfolding subtree
  subtree-placed zero bs at bounds s = symbol-placed bs at bounds s
  subtree-placed (suc level) bs at bounds s =
      placed-bind (NodeEnd g.internal_k at) _ bs _ _ (node-placed bs g.internal_k at) λ cs b _ node.
      let held = node.1 at (omega arith) (omega arith) in
      placed-check _ cs (eqb (u8 b 5) level) 8 at _ refl held λ _.
      placed-check _ cs (leb 1 (u16 b 6)) 8 at _ refl held λ _.
      branches-placed g.heap (subtree g level) (subtree-placed level) cs g.internal_k at b bounds s node

  tree_placed : (bs : List Block) (at : ℕ) (s : GroupState S) → Placed Whatever bs (tree_walk g at s)
  unfolding tree_walk
  tree_placed bs at s =
      placed-bind (NodeEnd g.internal_k at) _ bs _ _ (node-placed bs g.internal_k at) λ cs b _ node.
      let held = node.1 at (omega arith) (omega arith) in
      placed-if _ cs (eqb (u16 b 6) 0) _ _
      (λ _. placed-check _ cs (eqb (u8 b 5) 0) 8 at _ refl held (λ _. placed-ret _ cs s tt))
      (λ _. branches-placed g.heap (subtree g (u8 b 5)) (subtree-placed (u8 b 5)) cs g.internal_k at b [] s node)

pub group-placed : {S : Type 0} (leaf_k internal_k tree heap : ℕ) (visit : Entry → S → Result S) (found : S) →
    ((e : Entry) (s : S) → Answered Not13 (visit e s)) →
    (bs : List Block) → Placed Whatever bs (group_walk leaf_k internal_k tree heap visit found)
unfolding group_walk
group-placed leaf_k internal_k tree heap visit found visited bs =
    placed-bind Whatever _ bs _ _ (heap-placed bs heap) λ cs h _ _.
    placed-bind Whatever _ cs _ _ (tree_placed _ visited cs tree _) λ ds s _ _.
    placed-ret _ ds _ tt
