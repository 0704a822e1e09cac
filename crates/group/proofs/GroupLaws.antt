-- The steps of the code that reads a group against the steps of its walk.
use Prim.Native.Nat.{ℕ}
use mathlib.Core.List.{List, []}
use mathlib.Core.Path.{◌≡◌, ap, sym}
use lib.ListN.{length}
use Rattle.std.specs.Prelude.{Option, Result, Ok, Err}
use Rattle.format.specs.Blocks.{Block}
use Rattle.format.specs.declared.Refusal.{Refusal}
use Rattle.format.specs.Result.{value, answer}
use Rattle.format.specs.Walk.{Walk, ret, fault, located, ◌>>=◌, run}
use Rattle.format.specs.FreeList.{free_list}
use Rattle.format.specs.Heap.{Heap}
use Rattle.format.specs.Entry.{Group, GroupState}
use Rattle.format.specs.Tree.{tree_walk, group_walk}
use Rattle.walk.specs.Lent.{blocks_of, Lent, Walked, ended, stopped}
use Rattle.heap.specs.Segment.{heap_with}
use Rattle.heap.specs.Header.{OpenHeap, open_walk}
use Rattle.heap.proofs.HeaderLaws.{heap-opened}
use Rattle.free_list.specs.FreeBlocks.{chain}
use Rattle.segment.specs.Segment.{SegmentIs}
use Rattle.segment.specs.declared.Segment.{Segment}
use Rattle.visit.specs.Visit.{Visit}
use Rattle.range.specs.declared.Name.{Name}
use Rattle.symbol.specs.Entry.{state_of}
use Rattle.symbol.specs.declared.entry.Group as entries
use Rattle.symbol_node.specs.Tree.{Sound}
use Rattle.tree.specs.Tree.{TreeIs}
use Rattle.group.specs.Group.{Ready, group_end, contents_walk}
use Rattle.laws.proofs.Bind.{bind_assoc, ret-bind, bind-ret}
use Rattle.laws.proofs.Simulation.{Simulation, start, same-walk, returned, callee-done, callee-stopped, callee-value, callee-refusal}

-- a group is its heap, entered, then what stands behind it
group-opened : {S : Type 0} (leaf_k internal_k tree heap : ℕ) (visit : Visit S) (found : S) →
    group_walk leaf_k internal_k tree heap visit found ≡ (open_walk heap >>= λ o. contents_walk leaf_k internal_k tree o visit found)
unfolding group_walk contents_walk
group-opened leaf_k internal_k tree heap visit found = rw (heap-opened heap) (simp (bind_assoc, ret-bind))

-- What stands behind a heap, by its free list.
module _ {S : Type 0} (im : List ℕ) (eof room : ℕ) (ws : List ℕ) (count : ℕ) (l : Lent ws count room) (leaf_k internal_k tree : ℕ) (o : OpenHeap)
    (visit : Visit S) (found : S) where
  abbrev w : Walk S
  w = contents_walk leaf_k internal_k tree o visit found

  abbrev group_with : Heap → Group S
  group_with h = record { leaf_k = leaf_k; internal_k = internal_k; heap = h; visit = visit }

  abbrev first : GroupState S
  first = record { last = []; found = found }

  pub list-refused : free_list o.segment o.head ≡ answer 9 → Walked ws ws (stopped (fault 9 o.place)) (run im eof room w (blocks_of count ws))
  unfolding contents_walk
  list-refused e =
      callee-refusal (located o.place (free_list o.segment o.head)) _ (fault 9 o.place) (ap (located o.place) e) (start im eof room w count ws l)

  module _ (free : List Block) (e : free_list o.segment o.head ≡ value free) where
    pub at-tree : Simulation im eof room w count ws (tree_walk (group_with (heap_with o.segment free)) tree first >>= λ s. ret s.found) count ws
    unfolding contents_walk
    at-tree = callee-value (located o.place (free_list o.segment o.head)) _ free (ap (located o.place) e) (start im eof room w count ws l)

    module _ (ws₂ : List ℕ) where
      tree-stopped : (x : Refusal) →
          Walked ws ws₂ (stopped x) (run im eof room (tree_walk (group_with (heap_with o.segment free)) tree first) (blocks_of count ws)) →
          Walked ws ws₂ (stopped x) (run im eof room w (blocks_of count ws))
      tree-stopped x t = callee-stopped ws₂ (tree_walk (group_with (heap_with o.segment free)) tree first) _ at-tree t

      tree-done : (s : GroupState S) (n : ℕ) → length ws₂ ≡ length ws →
          Walked ws ws₂ (ended s n) (run im eof room (tree_walk (group_with (heap_with o.segment free)) tree first) (blocks_of count ws)) →
          Walked ws ws₂ (ended s.found n) (run im eof room w (blocks_of count ws))
      tree-done s n same t =
          returned (callee-done ws₂ (tree_walk (group_with (heap_with o.segment free)) tree first) (λ (x : GroupState S). ret x.found) at-tree same t)

-- The code's tree, read behind the free list: what it returned, and what holds after it.
module _ {S : Type 0} (im : List ℕ) (g : entries.Group) (ws : List ℕ) (count : ℕ) (l : Lent ws count g.bounds.room) (tree : ℕ) (visit : Visit S)
    (found : S) (place : ℕ) (seg : List ℕ) where
  abbrev no_name : Name
  no_name = record { at = 0; size = 0; first = 0; second = 0 }

  abbrev opened : OpenHeap
  opened = record { segment = seg; head = g.strings.head; place = place }

  abbrev contents : Walk S
  contents = contents_walk g.leaf_k g.internal_k tree opened visit found

  module _ (e : free_list seg g.strings.head ≡ value (chain g.strings.free seg g.strings.head)) (ws₂ : List ℕ) (count₂ links₂ : ℕ) (found₂ : S) where
    pub tree-refused : (x : Refusal) → TreeIs im seg ws visit g tree no_name count found ws₂ count₂ links₂ found₂ (Err x) →
        Walked ws ws₂ (stopped x) (run im g.bounds.end_of_file g.bounds.room contents (blocks_of count ws))
    tree-refused x t = tree-stopped im _ _ ws count l _ _ tree opened visit _ _ e ws₂ x t.walked

    pub tree-ended : (last : Name) → length ws₂ ≡ length ws →
        TreeIs im seg ws visit g tree no_name count found ws₂ count₂ links₂ found₂ (Ok last) →
        Walked ws ws₂ (ended found₂ count₂) (run im g.bounds.end_of_file g.bounds.room contents (blocks_of count ws))
    tree-ended last same t = tree-done im _ _ ws count l _ _ tree opened visit _ _ e ws₂ (state_of seg last found₂) count₂ same t.walked

-- what was read of a segment, by the case that it is
pub same-segment : {seg seg' map : List ℕ} {head : ℕ} {r r' : Option Segment} → seg ≡ seg' → r ≡ r' → SegmentIs seg map head r → SegmentIs seg' map head r'
same-segment e f h = rw f at (rw e at h)

-- A group, by its heap.
module _ {S : Type 0} (im : List ℕ) (eof room : ℕ) (ws : List ℕ) (count : ℕ) (l : Lent ws count room) (leaf_k internal_k tree heap : ℕ)
    (visit : Visit S) (found : S) (ws₁ : List ℕ) where
  abbrev whole : Walk S
  whole = group_walk leaf_k internal_k tree heap visit found

  -- what follows the heap
  abbrev behind : OpenHeap → Walk S
  behind o = contents_walk leaf_k internal_k tree o visit found

  split : Simulation im eof room whole count ws (open_walk heap >>= behind) count ws
  split = same-walk _ (group-opened leaf_k internal_k tree heap visit found) (start im eof room whole count ws l)

  pub heap-stopped : (x : Refusal) → Walked ws ws₁ (stopped x) (run im eof room (open_walk heap) (blocks_of count ws)) →
      Walked ws ws₁ (stopped x) (run im eof room whole (blocks_of count ws))
  heap-stopped x h = callee-stopped ws₁ (open_walk heap) _ split h

  module _ (o : OpenHeap) (m : ℕ) (same : length ws₁ ≡ length ws)
      (h : Walked ws ws₁ (ended o m) (run im eof room (open_walk heap) (blocks_of count ws))) where
    pub at-contents : Simulation im eof room whole count ws (behind o) m ws₁
    at-contents = callee-done ws₁ (open_walk heap) _ split same h

    last_step : Simulation im eof room whole count ws (behind o >>= λ x. ret x) m ws₁
    last_step = same-walk _ (sym (bind-ret (behind o))) at-contents

    -- what the code of the contents returned is what the group's returns
    pub contents-ended : (ws₂ : List ℕ) (count₂ : ℕ) (found₂ : S) (r : Result (Unit {0}) Refusal) → length ws₂ ≡ length ws₁ →
        Walked ws₁ ws₂ (group_end found₂ count₂ r) (run im eof room (behind o) (blocks_of m ws₁)) →
        Walked ws ws₂ (group_end found₂ count₂ r) (run im eof room whole (blocks_of count ws))
    contents-ended ws₂ count₂ found₂ (Ok u) same₂ t = returned (callee-done ws₂ (behind o) (λ (x : S). ret x) last_step same₂ t)
    contents-ended ws₂ count₂ found₂ (Err x) same₂ t = callee-stopped ws₂ (behind o) (λ (y : S). ret y) last_step t

-- a sound tree leaves what the next group is read with
pub sound-ready : {seg ws : List ℕ} {g : entries.Group} {count links : ℕ} {last : Name} → Sound seg ws g count links last →
    Ready ws g.bounds.end_of_file g.bounds.room count links
sound-ready h = record { lent = h.lent; apart = h.apart; inside = h.inside; links = h.links }
