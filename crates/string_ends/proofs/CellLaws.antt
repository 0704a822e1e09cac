-- Whether the string at the byte x of a cell ends outside the free blocks, by the cell's number.
use Prim.Native.Nat.{ℕ, zero, suc, ◌+◌, ◌*◌, ◌-◌, ◌≤◌, ◌<◌}
use mathlib.Core.Bool.{Bool, true, false, not, or-true}
use mathlib.Core.List.{List}
use mathlib.Core.Path.{◌≡◌, refl, ap, sym, ◌∙◌}
use native.Mathlib.Omega.{arith}
use borrow.Author.Tests.{ltb-true, ltb-false, lt-ltb, le-ltb, le-leb, lt-leb, eqb-true, eqb-false}
use lib.Dec.{ltb, eqb}
use lib.ListN.{length, get_or}
use Rattle.format.specs.Blocks.{Block}
use Rattle.free_map.specs.FreeMap.{is_free, free_start, free_end, in_cell}
use Rattle.string_ends.specs.Ends.{ends_outside, marked}
use Rattle.string_ends.specs.Cells.{CellOf}
use Rattle.string_ends.proofs.NumberLaws.{mark-none}
use Rattle.string_ends.proofs.ByteLaws.{ends-behind, ends-here, ends_next, ends-free}

-- the byte x of a cell of number v
module _ (v x : ℕ) where
  in_start : x < free_start v → in_cell v x ≡ true
  in_start h = rw (lt-ltb x (free_start v) h)

  in_end : 16 ≤ x + free_end v → in_cell v x ≡ true
  in_end h = simp (le-leb 16 (x + free_end v) h, or-true)

  in-none : free_start v ≤ x → x + free_end v < 16 → in_cell v x ≡ false
  in-none h k = rw (le-ltb x (free_start v) h, lt-leb 16 (x + free_end v) k)

-- the string at the byte x of the cell c, whose number is v
module _ {seg : List ℕ} {bs : List Block} {c v : ℕ} (k : CellOf seg bs c v) (x : ℕ) where
  -- a free byte
  cell_free : x < 16 → in_cell v x ≡ true → ends_outside seg bs (16 * c + x) ≡ false
  cell_free h e = go (ltb (16 * c + x) (length seg)) refl
    where
      go : (t : Bool) → ltb (16 * c + x) (length seg) ≡ t → ends_outside seg bs (16 * c + x) ≡ false
      go true p = ends-free seg bs (16 * c + x) k.wide (sym (k.bytes x h (ltb-true _ _ p)) ∙ e)
      go false p = ends-behind seg bs (16 * c + x) (ltb-false _ _ p)

  pub cell-start : x < 16 → x < free_start v → ends_outside seg bs (16 * c + x) ≡ false
  cell-start h l = cell_free h (in_start v x l)

  -- a byte that isn't free
  module _ (i : 16 * c + x < length seg) (s : free_start v ≤ x) (e : x + free_end v < 16) where
    not_free : is_free bs (16 * c + x) ≡ false
    not_free = sym (k.bytes x (omega arith) i) ∙ in-none v x s e

    pub cell-nul : get_or seg (16 * c + x) 0 ≡ 0 → ends_outside seg bs (16 * c + x) ≡ true
    cell-nul z = ends-here seg bs (16 * c + x) i z ∙ ap not not_free

    pub cell-next : (get_or seg (16 * c + x) 0 ≡ 0 → ⊥) → ends_outside seg bs (16 * c + x) ≡ ends_outside seg bs (16 * c + x + 1)
    cell-next n = ends_next seg bs (16 * c + x) i k.wide n ∙ rw not_free

  -- behind the bytes that aren't free: a free byte, or the cell's end
  pub cell-end : free_start v < 16 → 16 ≤ x + free_end v → x ≤ 16 → (0 < free_end v → x < 16) → marked v ≡ ends_outside seg bs (16 * c + x)
  cell-end s e l m = go (ltb 0 (free_end v)) refl
    where
      go : (t : Bool) → ltb 0 (free_end v) ≡ t → marked v ≡ ends_outside seg bs (16 * c + x)
      go true p = let q = ltb-true 0 (free_end v) p in mark-none v q ∙ sym (cell_free (m q) (in_end v x e))
      go false p =
          let q = ltb-false 0 (free_end v) p in
          let g : 16 * (c + 1) ≡ 16 * c + x = omega arith in
          rw g at (k.ends (omega arith) s)

-- n bytes at the start of a cell, no NUL among them
module _ {seg : List ℕ} {bs : List Block} {c v : ℕ} (k : CellOf seg bs c v) (h : 16 * c + 16 ≤ length seg) (s : free_start v ≡ 0)
    (none : (k : ℕ) → k < 16 → get_or seg (16 * c + k) 0 ≡ 0 → ⊥) where
  cell-bytes : (n : ℕ) → n + free_end v ≤ 16 → ends_outside seg bs (16 * c) ≡ ends_outside seg bs (16 * c + n)
  cell-bytes zero e = let z : 16 * c ≡ 16 * c + 0 = omega arith in ap (ends_outside seg bs) z
  cell-bytes (suc n) e =
      let z : 16 * c + n + 1 ≡ 16 * c + suc n = omega arith in
      cell-bytes n (omega arith) ∙ rw z at (cell-next k n (omega arith) (omega arith) (omega arith) (none n (omega arith)))

  -- so the mark decides
  pub cell-without : free_end v ≤ 16 → marked v ≡ ends_outside seg bs (16 * c)
  cell-without e =
      cell-end k (16 - free_end v) (omega arith) (omega arith) (omega arith) (λ p. omega arith) ∙ sym (cell-bytes (16 - free_end v) (omega arith))

-- a marked cell without a free byte
module _ {seg : List ℕ} {bs : List Block} {c : ℕ} (k : CellOf seg bs c 17) where
  behind : ends_outside seg bs (16 * (c + 1)) ≡ true
  behind = sym (k.ends refl (omega arith))

  inside : 16 * (c + 1) < length seg
  inside = go (ltb (16 * (c + 1)) (length seg)) refl
    where
      go : (t : Bool) → ltb (16 * (c + 1)) (length seg) ≡ t → 16 * (c + 1) < length seg
      go true p = ltb-true _ _ p
      go false p = let e = sym (ends-behind seg bs (16 * (c + 1)) (ltb-false _ _ p)) ∙ behind in let z : ◌≡◌ {A = ℕ} 0 1 = cc in absurd (omega arith)

  -- a byte before a string that ends outside
  marked-byte : (x : ℕ) → x < 16 → ends_outside seg bs (16 * c + x + 1) ≡ true → ends_outside seg bs (16 * c + x) ≡ true
  marked-byte x h r = go (eqb (get_or seg (16 * c + x) 0) 0) refl
    where
      go : (t : Bool) → eqb (get_or seg (16 * c + x) 0) 0 ≡ t → ends_outside seg bs (16 * c + x) ≡ true
      go true p = cell-nul k x (omega (arith, inside)) (omega arith) (omega arith) (eqb-true _ _ p)
      go false p = cell-next k x (omega (arith, inside)) (omega arith) (omega arith) (eqb-false _ _ p) ∙ r

  -- the last n bytes, from the cell's end on
  marked-last : (n : ℕ) → n ≤ 16 → ends_outside seg bs (16 * c + (16 - n)) ≡ true
  marked-last zero h = let e : 16 * (c + 1) ≡ 16 * c + (16 - 0) = omega arith in rw e at behind
  marked-last (suc n) h =
      let e : 16 * c + (16 - n) ≡ 16 * c + (16 - suc n) + 1 = omega arith in
      marked-byte (16 - suc n) (omega arith) (rw e at (marked-last n (omega arith)))

  -- every string in it ends outside the free blocks
  pub cell-marked : (x : ℕ) → x < 16 → ends_outside seg bs (16 * c + x) ≡ true
  cell-marked x h = let e : 16 - (16 - x) ≡ x = omega arith in rw e at (marked-last (16 - x) (omega arith))
