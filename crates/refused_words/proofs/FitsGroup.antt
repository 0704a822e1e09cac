-- A group whose tree and heap have addresses of 64 bits, in an image whose K fit 16 bits.
use Prim.Native.Nat.{ℕ, zero, suc, ◌+◌, ◌*◌, ◌^◌, ◌<◌}
use mathlib.Core.List.{List, []}
use native.Mathlib.Omega.{arith}
use lib.Dec.{leb, eqb}
use lib.ListN.{drop}
use Rattle.format.specs.Bytes.{in_range, u8, u16, u32, u64}
use Rattle.format.specs.Result.{Result}
use Rattle.format.specs.Walk.{Walk, symbol_block}
use Rattle.format.specs.Heap.{Heap}
use Rattle.format.specs.Names.{Bound, read_text, name_text, below, within}
use Rattle.format.specs.Entry.{Entry, Group, GroupState, read_value, read_entry}
use Rattle.format.specs.Symbols.{SNOD, entries, symbol_walk}
use Rattle.format.specs.Tree.{children, branches, subtree, tree_walk, group_walk}
use Rattle.links.proofs.Gives.{Gives, Whatever, gives-value, gives-check, gives-bind, gives-whatever}
use Rattle.demand.specs.Bytes.{IsBytes}
use Rattle.refused_words.specs.Words.{IsWord}
use Rattle.refused_words.proofs.ReadWords.{drop-bytes, u64-word}
use Rattle.refused_words.proofs.Fits.{Fits, fits-bind, fits-ret, fits-block, fits-check, fits-if, fits-located}
use Rattle.refused_words.proofs.FitsNode.{heap-fits, keys-fit, node-fits}

-- the visits keep Q
module _ {S : Type 0} (Q : S → Type 0) (g : Group S) (visited : (e : Entry) (s : S) → IsWord e.header → Q s → Gives Q (g.visit e s))
    (leaf_small : g.leaf_k < 2 ^ 16) (internal_small : g.internal_k < 2 ^ 16) where
  abbrev Keeps : GroupState S → Type 0
  Keeps s = Q s.found

  entry_gives : (bounds : List Bound) (b : List ℕ) (s : GroupState S) → IsBytes b → Keeps s → Gives Keeps (read_entry g bounds b s)
  unfolding read_entry
  entry_gives bounds b s i q =
      gives-bind _ Whatever (read_text (name_text g.heap (u64 b 0))) _ (gives-whatever _) λ name _.
      gives-check _ (below s.last name) 8 _
      (gives-check _ (within bounds name) 8 _
      (gives-check _ (leb (u32 b 16) 2) 8 _
      (gives-bind _ Whatever (read_value g.heap b) _ (gives-whatever _) λ _ _.
      gives-bind _ Q _ _ (visited _ s.found (u64-word b 8 i) q) λ found p.
      gives-value Keeps _ p)))

  entries_fit : (bounds : List Bound) (n at : ℕ) (b : List ℕ) (s : GroupState S) → IsBytes b → Keeps s → Fits Keeps (entries g bounds n at b s)
  unfolding entries
  entries_fit bounds zero at b s i q = fits-ret Keeps s q
  entries_fit bounds (suc n) at b s i q =
      fits-located _ Keeps at (read_entry g bounds b s) _ (entry_gives bounds b s i q) λ next p.
      entries_fit bounds n (at + 40) (drop 40 b) next (drop-bytes 40 b i) p

  symbol-fits : (at : ℕ) (bounds : List Bound) (s : GroupState S) → IsWord at → Keeps s → Fits Keeps (symbol_walk g at bounds s)
  unfolding symbol_walk
  symbol-fits at bounds s a q =
      fits-block _ symbol_block at (8 + 80 * g.leaf_k) _ a (omega (arith, leaf_small)) λ b i.
      fits-check _ (eqb (u32 b 0) SNOD) 7 at _
      (fits-check _ (eqb (u8 b 4) 1) 7 at _
      (fits-check _ (in_range 1 (2 * g.leaf_k) (u16 b 6)) 8 at _
      (entries_fit bounds (u16 b 6) (at + 8) (drop 8 b) s (drop-bytes 8 b i) q)))

  module _ (h : Heap) (walk : ℕ → List Bound → GroupState S → Walk (GroupState S))
      (walked : (at : ℕ) (bounds : List Bound) (s : GroupState S) → IsWord at → Keeps s → Fits Keeps (walk at bounds s)) where
    children-fit : (n : ℕ) (b : List ℕ) (bounds : List Bound) (s : GroupState S) → IsBytes b → Keeps s → Fits Keeps (children h walk n b bounds s)
    unfolding children
    children-fit zero b bounds s i q = fits-ret Keeps s q
    children-fit (suc n) b bounds s i q =
        fits-bind Keeps _ _ _ (walked _ _ s (u64-word b 8 i) q) λ next p. children-fit n (drop 16 b) bounds next (drop-bytes 16 b i) p

    branches-fit : (at : ℕ) (b : List ℕ) (bounds : List Bound) (s : GroupState S) → IsBytes b → Keeps s → Fits Keeps (branches h walk at b bounds s)
    unfolding branches
    branches-fit at b bounds s i q =
        fits-bind Whatever _ _ _ (keys-fit h (u16 b 6 + 1) (at + 24) (drop 24 b)) λ _ _.
        children-fit (u16 b 6) (drop 24 b) bounds s (drop-bytes 24 b i) q

  subtree-fits : (height at : ℕ) (bounds : List Bound) (s : GroupState S) → IsWord at → Keeps s → Fits Keeps (subtree g height at bounds s)
  unfolding subtree
  subtree-fits zero at bounds s a q = symbol-fits at bounds s a q
  subtree-fits (suc level) at bounds s a q =
      fits-bind IsBytes _ _ _ (node-fits g.internal_k at internal_small a) λ b i.
      fits-check _ (eqb (u8 b 5) level) 8 at _
      (fits-check _ (leb 1 (u16 b 6)) 8 at _ (branches-fit g.heap (subtree g level) (subtree-fits level) at b bounds s i q))

  tree-fits : (at : ℕ) (s : GroupState S) → IsWord at → Keeps s → Fits Keeps (tree_walk g at s)
  unfolding tree_walk
  tree-fits at s a q =
      fits-bind IsBytes _ _ _ (node-fits g.internal_k at internal_small a) λ b i.
      fits-if _ (eqb (u16 b 6) 0) _ _ (λ _. fits-check _ (eqb (u8 b 5) 0) 8 at _ (fits-ret Keeps s q))
      (branches-fit g.heap (subtree g (u8 b 5)) (subtree-fits (u8 b 5)) at b [] s i q)

pub group-fits : {S : Type 0} (Q : S → Type 0) (leaf_k internal_k tree heap : ℕ) (visit : Entry → S → Result S) (found : S) →
    ((e : Entry) (s : S) → IsWord e.header → Q s → Gives Q (visit e s)) → leaf_k < 2 ^ 16 → internal_k < 2 ^ 16 → IsWord tree → IsWord heap → Q found →
    Fits Q (group_walk leaf_k internal_k tree heap visit found)
unfolding group_walk
group-fits Q leaf_k internal_k tree heap visit found visited l m t h q =
    fits-bind Whatever _ _ _ (heap-fits heap h) λ seg _.
    fits-bind (λ s. Q s.found) _ _ _ (tree-fits Q _ visited l m tree _ t q) λ s p.
    fits-ret Q _ p
