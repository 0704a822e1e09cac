-- Two visits of the same group. They meet the same entries in the same blocks; what holds between their findings at one entry holds at the end.
use Prim.Native.Nat.{ℕ, zero, suc, ◌+◌, ◌*◌}
use mathlib.Core.Bool.{Bool, true}
use mathlib.Core.List.{List, []}
use mathlib.Core.Path.{◌≡◌, refl}
use lib.ListN.{drop}
use lib.Dec.{leb, eqb}
use Rattle.format.specs.Bytes.{in_range, u8, u16, u32, u64}
use Rattle.format.specs.Result.{Result}
use Rattle.format.specs.Walk.{fault, located, Walk, ret, check, ◌>>=◌, ◌>>◌, enter_block, symbol_block}
use Rattle.format.specs.Heap.{Heap, heap_walk}
use Rattle.format.specs.Names.{Bound, read_text, name_text, below, within}
use Rattle.format.specs.Entry.{Entry, Group, GroupState, read_value, read_entry}
use Rattle.format.specs.Symbols.{SNOD, entries, symbol_walk}
use Rattle.format.specs.Tree.{node_walk, keys_walk, children, branches, subtree, tree_walk, group_walk}
use Rattle.laws.proofs.Results.{located-bind, located-check}
use Rattle.laws.proofs.Follows.{Follows, follows-bind, follows_then, follows-check, follows_if, follows-ret}

-- an entry where it stands, as a walk: its readers and tests one after the other
pub entry-walk : {S : Type 0} (g : Group S) (bounds : List Bound) (at : ℕ) (b : List ℕ) (s : GroupState S) →
    located at (read_entry g bounds b s) ≡
    (located at (read_text (name_text g.heap (u64 b 0))) >>= λ name.
    check (below s.last name) (fault 8 at) >>
    (check (within bounds name) (fault 8 at) >>
    (check (leb (u32 b 16) 2) (fault 8 at) >>
    (located at (read_value g.heap b) >>
    (located at (g.visit (record { name = name; type = u32 b 16; header = u64 b 8 }) s.found) >>= λ found. ret (record { last = name; found = found }))))))
unfolding read_entry
entry-walk g bounds at b s = simp (located-bind, located-check)

module _ {S T : Type 0} (exact : Bool) (leaf_k internal_k : ℕ) (visit : Entry → S → Result S) (visit' : Entry → T → Result T)
    -- what holds between the findings, with the last name
    (R : List ℕ → S → T → Type 0)
    (visited : (e : Entry) (last : List ℕ) (s : S) (t : T) (at : ℕ) → below last e.name ≡ true → R last s t →
    Follows exact (R e.name) (located at (visit e s)) (located at (visit' e t))) where
  abbrev first : Heap → Group S
  first h = record { leaf_k = leaf_k; internal_k = internal_k; heap = h; visit = visit }

  abbrev second : Heap → Group T
  second h = record { leaf_k = leaf_k; internal_k = internal_k; heap = h; visit = visit' }

  abbrev Q : GroupState S → GroupState T → Type 0
  Q s t = (s.last ≡ t.last) × R t.last s.found t.found

  module _ (h : Heap) where
    entry_follows : (bounds : List Bound) (at : ℕ) (b : List ℕ) (s : GroupState S) (t : GroupState T) → Q s t →
        Follows exact Q (located at (read_entry (first h) bounds b s)) (located at (read_entry (second h) bounds b t))
    entry_follows bounds at b s t q =
        rw (entry-walk (first h) bounds at b s, entry-walk (second h) bounds at b t, q.0)
        (follows_then exact Q _ _ (located at (read_text (name_text h (u64 b 0)))) λ name.
        follows-check exact Q (below t.last name) (fault 8 at) _ _ λ rises.
        follows-check exact Q (within bounds name) (fault 8 at) _ _ λ _.
        follows-check exact Q (leb (u32 b 16) 2) (fault 8 at) _ _ λ _.
        follows_then exact Q _ _ (located at (read_value h b)) λ _.
        follows-bind exact (R name) Q (λ x. ret (record { last = name; found = x })) (λ y. ret (record { last = name; found = y }))
        (λ x y r. follows-ret exact Q _ _ (refl, r)) _ _
        (visited (record { name = name; type = u32 b 16; header = u64 b 8 }) t.last s.found t.found at rises q.1))

    entries-follow : (bounds : List Bound) (n at : ℕ) (b : List ℕ) (s : GroupState S) (t : GroupState T) → Q s t →
        Follows exact Q (entries (first h) bounds n at b s) (entries (second h) bounds n at b t)
    unfolding entries
    entries-follow bounds zero at b s t q = follows-ret exact Q s t q
    entries-follow bounds (suc n) at b s t q =
        follows-bind exact Q Q _ _ (λ x y r. entries-follow bounds n (at + 40) (drop 40 b) x y r) _ _ (entry_follows bounds at b s t q)

    symbols-follow : (at : ℕ) (bounds : List Bound) (s : GroupState S) (t : GroupState T) → Q s t →
        Follows exact Q (symbol_walk (first h) at bounds s) (symbol_walk (second h) at bounds t)
    unfolding symbol_walk
    symbols-follow at bounds s t q =
        follows_then exact Q _ _ (enter_block symbol_block at (8 + 80 * leaf_k)) λ b.
        follows-check exact Q (eqb (u32 b 0) SNOD) (fault 7 at) _ _ λ _.
        follows-check exact Q (eqb (u8 b 4) 1) (fault 7 at) _ _ λ _.
        follows-check exact Q (in_range 1 (2 * leaf_k) (u16 b 6)) (fault 8 at) _ _ λ _.
        entries-follow bounds (u16 b 6) (at + 8) (drop 8 b) s t q

    module _ (walk : ℕ → List Bound → GroupState S → Walk (GroupState S)) (walk' : ℕ → List Bound → GroupState T → Walk (GroupState T))
        (c : (at : ℕ) (bounds : List Bound) (s : GroupState S) (t : GroupState T) → Q s t → Follows exact Q (walk at bounds s) (walk' at bounds t)) where
      children-follow : (n : ℕ) (b : List ℕ) (bounds : List Bound) (s : GroupState S) (t : GroupState T) → Q s t →
          Follows exact Q (children h walk n b bounds s) (children h walk' n b bounds t)
      unfolding children
      children-follow zero b bounds s t q = follows-ret exact Q s t q
      children-follow (suc n) b bounds s t q = follows-bind exact Q Q _ _ (λ x y r. children-follow n (drop 16 b) bounds x y r) _ _ (c (u64 b 8) _ s t q)

      branches-follow : (at : ℕ) (b : List ℕ) (bounds : List Bound) (s : GroupState S) (t : GroupState T) → Q s t →
          Follows exact Q (branches h walk at b bounds s) (branches h walk' at b bounds t)
      unfolding branches
      branches-follow at b bounds s t q =
          follows_then exact Q _ _ (keys_walk h (u16 b 6 + 1) (at + 24) (drop 24 b)) λ _. children-follow (u16 b 6) (drop 24 b) bounds s t q

    subtree-follows : (height at : ℕ) (bounds : List Bound) (s : GroupState S) (t : GroupState T) → Q s t →
        Follows exact Q (subtree (first h) height at bounds s) (subtree (second h) height at bounds t)
    unfolding subtree
    subtree-follows zero at bounds s t q = symbols-follow at bounds s t q
    subtree-follows (suc level) at bounds s t q =
        follows_then exact Q _ _ (node_walk internal_k at) λ b.
        follows-check exact Q (eqb (u8 b 5) level) (fault 8 at) _ _ λ _.
        follows-check exact Q (leb 1 (u16 b 6)) (fault 8 at) _ _ λ _.
        branches-follow _ _ (subtree-follows level) at b bounds s t q

    tree-follows : (at : ℕ) (s : GroupState S) (t : GroupState T) → Q s t → Follows exact Q (tree_walk (first h) at s) (tree_walk (second h) at t)
    unfolding tree_walk
    tree-follows at s t q =
        follows_then exact Q _ _ (node_walk internal_k at) λ b.
        follows_if exact Q (eqb (u16 b 6) 0) _ _ _ _ (follows-check exact Q (eqb (u8 b 5) 0) (fault 8 at) _ _ λ _. follows-ret exact Q s t q)
        (branches-follow _ _ (subtree-follows (u8 b 5)) at b [] s t q)

  -- the whole group: at its end the findings are as they are after its last name
  pub group-follows : (tree heap : ℕ) (s : S) (t : T) → R [] s t →
      Follows exact (λ x y. (last : List ℕ) × R last x y) (group_walk leaf_k internal_k tree heap visit s) (group_walk leaf_k internal_k tree heap visit' t)
  unfolding group_walk
  group-follows tree heap s t r =
      follows_then exact _ _ _ (heap_walk heap) λ h.
      follows-bind exact Q _ _ _ (λ x y q. follows-ret exact _ _ _ (y.last, q.1)) _ _ (tree-follows h tree _ _ (refl, r))
