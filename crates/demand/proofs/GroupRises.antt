-- The walk of a group raises what its visit raises by one at an entry by no more than the lengths of the blocks: a symbol node has no more
-- entries than bytes.
use Prim.Native.Nat.{ℕ, zero, suc, ◌+◌, ◌*◌, ◌≤◌}
use mathlib.Core.Bool.{Bool, true, false}
use mathlib.Core.List.{List, [], ◌∷◌}
use mathlib.Core.Path.{◌≡◌, ap}
use native.Mathlib.Omega.{arith}
use lib.Dec.{leb, eqb}
use lib.ListN.{drop}
use Rattle.std.specs.Prelude.{if◌then◌else◌}
use Rattle.format.specs.Bytes.{in_range, part, u8, u16, u32, u64}
use Rattle.format.specs.Result.{Result, value}
use Rattle.format.specs.Walk.{symbol_block, shown, fault, located, Walk, ret, check, ◌>>=◌, ◌>>◌}
use Rattle.format.specs.Heap.{Heap}
use Rattle.format.specs.Names.{Bound, read_text, name_text, below, within, string_at}
use Rattle.format.specs.Entry.{Entry, Group, GroupState, read_value, read_entry}
use Rattle.format.specs.Symbols.{entries, symbol_walk}
use Rattle.format.specs.Tree.{children, branches, subtree, tree_walk, group_walk}
use Rattle.laws.proofs.Results.{both_values, check-value}
use Rattle.walk.proofs.Tests.{range-most}
use Rattle.demand.proofs.Rises.{Rises, rises-ret, rises-located, rises-least, rises-checked, rises-block, rises-after, rises-then, rises-on}

module _ (im : List ℕ) (eof room : ℕ) {S : Type 0} (μ : S → ℕ) where
  abbrev found : GroupState S → ℕ
  found s = μ s.found

  module _ (g : Group S) (visit : (e : Entry) (s s' : S) → g.visit e s ≡ value s' → μ s' ≤ μ s + 1) where
    entry-rises : (bounds : List Bound) (b : List ℕ) (s s' : GroupState S) → read_entry g bounds b s ≡ value s' → μ s'.found ≤ μ s.found + 1
    unfolding read_entry
    entry-rises bounds b s s' e =
        let name = both_values (read_text (name_text g.heap (u64 b 0))) _ s' e in
        let above = check-value (below s.last name.0) 8 _ s' name.2 in
        let held = check-value (within bounds name.0) 8 _ s' above.1 in
        let typed = check-value (leb (u32 b 16) 2) 8 _ s' held.1 in
        let linked = both_values (read_value g.heap b) _ s' typed.1 in
        let at : Entry = record { name = name.0; type = u32 b 16; header = u64 b 8 } in
        let found = both_values (g.visit at s.found) _ s' linked.2 in
        let same : record { last = name.0; found = found.0 } ≡ s' = cc found.2 in
        let up : μ found.0 ≤ μ s.found + 1 = visit at s.found found.0 found.1 in
        omega (arith, ap (λ (x : GroupState S). μ x.found) same)

    entries-rise : (bounds : List Bound) (n at : ℕ) (b : List ℕ) (s : GroupState S) → Rises im eof room found (entries g bounds n at b s) (μ s.found + n)
    unfolding entries
    entries-rise bounds zero at b s = rises-ret im eof room found s _ (omega arith)
    entries-rise bounds (suc n) at b s =
        let sum : μ s.found + suc n ≡ μ s.found + 1 + n = omega arith in
        rw sum
        (rises-then im eof room found found (located at (read_entry g bounds b s)) (λ s'. entries g bounds n (at + 40) (drop 40 b) s') (μ s.found + 1) n
        (rises-located im eof room found at (read_entry g bounds b s) (μ s.found + 1) (entry-rises bounds b s))
        (λ s'. entries-rise bounds n (at + 40) (drop 40 b) s'))

    -- a symbol node is one block
    symbol-rises : (at : ℕ) (bounds : List Bound) (s : GroupState S) → Rises im eof room found (symbol_walk g at bounds s) (μ s.found)
    unfolding symbol_walk
    symbol-rises at bounds s =
        let size = 8 + 80 * g.leaf_k in
        let b = shown symbol_block (part im at size) in
        let m = u16 b 6 in
        rises-block im eof room found symbol_block at size _ (μ s.found)
        (rises-after im eof room found _ _ _ λ _.
        rises-after im eof room found _ _ _ λ _.
        rises-checked im eof room found (in_range 1 (2 * g.leaf_k) m) _ _ _ λ held.
        rises-least im eof room found _ _ _ (omega (arith, range-most 1 (2 * g.leaf_k) m held)) (entries-rise bounds m (at + 8) (drop 8 b) s))

    children-rise : (h : Heap) (walk : ℕ → List Bound → GroupState S → Walk (GroupState S)) →
        ((at : ℕ) (bounds : List Bound) (s : GroupState S) → Rises im eof room found (walk at bounds s) (μ s.found)) →
        (n : ℕ) (b : List ℕ) (bounds : List Bound) (s : GroupState S) → Rises im eof room found (children h walk n b bounds s) (μ s.found)
    unfolding children
    children-rise h walk r zero b bounds s = rises-ret im eof room found s _ (omega arith)
    children-rise h walk r (suc n) b bounds s =
        let own : List Bound = record { low = string_at h.segment (u64 b 0); high = string_at h.segment (u64 b 16) } ∷ bounds in
        rises-on im eof room found found (walk (u64 b 8) own s) (λ s'. children h walk n (drop 16 b) bounds s') (μ s.found) (r (u64 b 8) own s)
        (λ s'. children-rise h walk r n (drop 16 b) bounds s')

    branches-rise : (h : Heap) (walk : ℕ → List Bound → GroupState S → Walk (GroupState S)) →
        ((at : ℕ) (bounds : List Bound) (s : GroupState S) → Rises im eof room found (walk at bounds s) (μ s.found)) →
        (at : ℕ) (b : List ℕ) (bounds : List Bound) (s : GroupState S) → Rises im eof room found (branches h walk at b bounds s) (μ s.found)
    unfolding branches
    branches-rise h walk r at b bounds s = rises-after im eof room found _ _ _ (λ _. children-rise h walk r (u16 b 6) (drop 24 b) bounds s)

    subtree-rises : (level at : ℕ) (bounds : List Bound) (s : GroupState S) → Rises im eof room found (subtree g level at bounds s) (μ s.found)
    unfolding subtree
    subtree-rises zero at bounds s = symbol-rises at bounds s
    subtree-rises (suc level) at bounds s =
        rises-after im eof room found _ _ _
        (λ b.
        rises-after im eof room found _ _ _
        (λ _. rises-after im eof room found _ _ _ (λ _. branches-rise g.heap (subtree g level) (subtree-rises level) at b bounds s)))

    tree-rises : (at : ℕ) (s : GroupState S) → Rises im eof room found (tree_walk g at s) (μ s.found)
    unfolding tree_walk
    tree-rises at s = rises-after im eof room found _ _ _ (λ b. go b (eqb (u16 b 6) 0))
      where
        go : (b : List ℕ) (t : Bool) →
            Rises im eof room found (if t then check (eqb (u8 b 5) 0) (fault 8 at) >> ret s else branches g.heap (subtree g (u8 b 5)) at b [] s)
            (μ s.found)
        go b true = rises-after im eof room found _ _ _ (λ _. rises-ret im eof room found s _ (omega arith))
        go b false = branches-rise g.heap (subtree g (u8 b 5)) (subtree-rises (u8 b 5)) at b [] s

  pub group-rises : (visit : Entry → S → Result S) → ((e : Entry) (s s' : S) → visit e s ≡ value s' → μ s' ≤ μ s + 1) →
      (leaf_k internal_k tree heap : ℕ) (s : S) →
      Rises im eof room μ (group_walk leaf_k internal_k tree heap visit s) (μ s)
  unfolding group_walk
  group-rises visit r leaf_k internal_k tree heap s = rises-after im eof room μ _ _ _ (λ h. go h)
    where
      go : (h : Heap) →
          let g : Group S = record { leaf_k = leaf_k; internal_k = internal_k; heap = h; visit = visit } in
          Rises im eof room μ (tree_walk g tree (record { last = []; found = s }) >>= λ t. ret t.found) (μ s)
      go h =
          let g : Group S = record { leaf_k = leaf_k; internal_k = internal_k; heap = h; visit = visit } in
          rises-on im eof room found μ (tree_walk g tree (record { last = []; found = s })) (λ t. ret t.found) (μ s)
          (tree-rises g r tree (record { last = []; found = s }))
          (λ t. rises-ret im eof room μ t.found (μ t.found) (omega arith))
