-- A map whose cells are marked from one on.
use Prim.Native.Nat.{ℕ, ◌+◌, ◌*◌, ◌/◌, ◌%◌, ◌≤◌, ◌<◌}
use mathlib.Core.Bool.{Bool, true, false}
use mathlib.Core.List.{List}
use mathlib.Core.Path.{◌≡◌, refl, sym, ◌∙◌}
use native.Mathlib.Omega.{arith}
use borrow.Author.Tests.{eqb-true, eqb-false}
use lib.Dec.{eqb}
use lib.ListN.{length, get_or, set, get_or-eq_default}
use lib.Seq.{get_or-set_same, get_or-set_other}
use Rattle.format.specs.Blocks.{Block}
use Rattle.free_map.specs.FreeMap.{free_start, free_end, MapOf}
use Rattle.string_ends.specs.Ends.{ends_outside, marked, Marked}
use Rattle.string_ends.specs.Cells.{CellOf, Remarked}
use Rattle.string_ends.proofs.ByteLaws.{ends-behind}
use Rattle.string_ends.proofs.NumberLaws.{mark-low}

-- the mark of cell d is right
abbrev Right : List ℕ → List ℕ → List Block → ℕ → Type 0
Right map seg bs d =
    free_end (get_or map d 0) ≡ 0 → free_start (get_or map d 0) < 16 → marked (get_or map d 0) ≡ ends_outside seg bs (16 * (d + 1))

-- the map has the free bytes, and the marks from cell c on
pub record MarkedFrom (map seg : List ℕ) (bs : List Block) (c : ℕ) : Type 0 where
  pub bytes : MapOf map seg bs
  pub marks : (d : ℕ) → c ≤ d → Right map seg bs d

-- a cell of a map
pub cell-of : (map seg : List ℕ) (bs : List Block) (c : ℕ) → MapOf map seg bs → Right map seg bs c → CellOf seg bs c (get_or map c 0)
cell-of map seg bs c m r = record {
  wide = m.wide;
  bytes =
      λ x h l.
      let d : (16 * c + x) / 16 ≡ c = omega arith in
      let e : (16 * c + x) % 16 ≡ x = omega arith in
      rw (d, e) at (m.bytes (16 * c + x) l);
  ends = r;
}

-- a map that is long enough
module _ (map seg : List ℕ) (bs : List Block) (long : length seg ≤ 16 * length map) where
  -- behind the map there is nothing to mark
  pub marked-none : MapOf map seg bs → MarkedFrom map seg bs (length map)
  marked-none m = record {
    bytes = m;
    marks =
        λ d h e s.
        rw (get_or-eq_default map 0 {n = d} h) (mark-low 0 (omega arith)) ∙ sym (ends-behind seg bs (16 * (d + 1)) (omega arith));
  }

  -- all cells are marked
  pub marked_all : MarkedFrom map seg bs 0 → Marked map seg bs
  marked_all m = record { long = λ h. long; ends = λ c h. m.marks c (omega arith) }

-- the cell before gets its mark
module _ (map seg : List ℕ) (bs : List Block) (c r : ℕ) (h : c < length map) (m : MarkedFrom map seg bs (c + 1))
    (n : Remarked (get_or map c 0) (ends_outside seg bs (16 * (c + 1))) r) where
  -- each cell has the free bytes that it had
  kept : (d : ℕ) → (free_start (get_or (set map c r) d 0) ≡ free_start (get_or map d 0)) × (free_end (get_or (set map c r) d 0) ≡ free_end (get_or map d 0))
  kept d = go (eqb d c) refl
    where
      go : (t : Bool) → eqb d c ≡ t →
          (free_start (get_or (set map c r) d 0) ≡ free_start (get_or map d 0)) × (free_end (get_or (set map c r) d 0) ≡ free_end (get_or map d 0))
      go true p = let e : d ≡ c = eqb-true d c p in rw (e, get_or-set_same map c r 0 h) (n.start, n.end)
      go false p = rw (get_or-set_other map c d r 0 (eqb-false d c p)) (refl, refl)

  pub marked_next : MarkedFrom (set map c r) seg bs c
  marked_next = record {
    bytes = record {
      wide = m.bytes.wide;
      bytes = λ i l. rw ((kept (i / 16)).0, (kept (i / 16)).1) (m.bytes.bytes i l);
    };
    marks = λ d l. go d l (eqb d c) refl;
  }
    where
      go : (d : ℕ) → c ≤ d → (t : Bool) → eqb d c ≡ t → Right (set map c r) seg bs d
      go d l true p = let e : d ≡ c = eqb-true d c p in rw (e, get_or-set_same map c r 0 h) (λ a b. n.mark (sym n.end ∙ a) (omega (arith, b, n.start)))
      go d l false p = let f : d ≡ c → ⊥ = eqb-false d c p in rw (get_or-set_other map c d r 0 f) (m.marks d (omega arith))
