-- A free block added to the map, byte by byte.
use Prim.Native.Nat.{ℕ, ◌+◌, ◌*◌, ◌-◌, ◌/◌, ◌%◌, ◌≤◌, ◌<◌}
use mathlib.Core.Bool.{Bool, true, false, ◌||◌, or-true, or-false}
use mathlib.Core.List.{List, [], ◌∷◌, ◌++◌}
use mathlib.Core.Logic.{⊎_elim}
use mathlib.Core.Path.{◌≡◌, refl, sym, ◌∙◌}
use native.Mathlib.Nat.{eq-or-lt_of_le}
use native.Mathlib.Omega.{arith}
use borrow.Author.Tests.{lt-ltb, le-ltb, le-leb, lt-leb, ltb-true, ltb-false, leb-false}
use lib.Dec.{ltb, leb}
use lib.ListN.{length, get_or}
use Rattle.format.specs.Blocks.{Block, block, overlaps, overlaps_any}
use Rattle.block_index.proofs.Overlaps.{overlaps-hit, overlaps-not-below, overlaps-not-above}
use Rattle.free_map.specs.FreeMap.{is_free, free_start, free_end, in_cell, Wide, MapOf}
use Rattle.free_map.proofs.RangeLaws.{overlaps-snoc, wide-snoc}
use Rattle.free_map.proofs.SearchLaws.{some-free}
use Rattle.free_map.proofs.CellLaws.{joined-cell}
use Rattle.free_map.proofs.CellWrites.{Written}

-- where the byte i is not free
abbrev NotFree : List ℕ → ℕ → Type 0
NotFree map i = in_cell (get_or map (i / 16) 0) (i % 16) ≡ false

-- a cell whose last byte is not free has none at its end; one whose first byte is not free has none at its start
no_end : (v : ℕ) → in_cell v 15 ≡ false → free_end v ≡ 0
no_end v e = go (leb 16 (15 + free_end v)) refl (ltb 15 (free_start v)) e
  where
    go : (t : Bool) → leb 16 (15 + free_end v) ≡ t → (u : Bool) → (u || t) ≡ false → free_end v ≡ 0
    go t p true q = let z : ◌≡◌ {A = ℕ} 0 1 = cc in absurd (omega arith)
    go true p false q = let z : ◌≡◌ {A = ℕ} 0 1 = cc in absurd (omega arith)
    go false p false q = let l = leb-false 16 (15 + free_end v) p in omega arith

no_start : (v : ℕ) → in_cell v 0 ≡ false → free_start v ≡ 0
no_start v e = go (ltb 0 (free_start v)) refl e
  where
    go : (t : Bool) → ltb 0 (free_start v) ≡ t → (t || leb 16 (0 + free_end v)) ≡ false → free_start v ≡ 0
    go true p q = let z : ◌≡◌ {A = ℕ} 0 1 = cc in absurd (omega arith)
    go false p q = let l = ltb-false 0 (free_start v) p in omega arith

-- Each byte, by where it lies.
module _ {map map' : List ℕ} {off size : ℕ} (cells : Written map off size map') (w : 16 ≤ size)
    (apart : (i : ℕ) → off ≤ i → i < off + size → NotFree map i) where
  -- the first cell has no free byte at its end
  first-open : free_end (get_or map (off / 16) 0) ≡ 0
  first-open =
      let d : (16 * (off / 16) + 15) / 16 ≡ off / 16 = omega arith in
      let r : (16 * (off / 16) + 15) % 16 ≡ 15 = omega arith in
      no_end (get_or map (off / 16) 0) (rw (d, r) at (apart (16 * (off / 16) + 15) (omega arith) (omega arith)))

  -- the last one has none at its start
  last-open : 0 < (off + size) % 16 → free_start (get_or map ((off + size) / 16) 0) ≡ 0
  last-open h =
      let d : 16 * ((off + size) / 16) / 16 ≡ (off + size) / 16 = omega arith in
      let r : 16 * ((off + size) / 16) % 16 ≡ 0 = omega arith in
      no_start (get_or map ((off + size) / 16) 0) (rw (d, r) at (apart (16 * ((off + size) / 16)) (omega arith) (omega arith)))

  -- a byte of the block is free
  byte-in : (i : ℕ) → off ≤ i → i < off + size → in_cell (get_or map' (i / 16) 0) (i % 16) ≡ true
  byte-in i h k =
      ⊎_elim
      (λ e. let f : i / 16 ≡ off / 16 = omega arith in
      rw (f, cells.first, joined-cell (free_start (get_or map (off / 16) 0)) (16 - off % 16) (i % 16) (omega arith))
      (rw (le-leb 16 (i % 16 + (16 - off % 16)) (omega arith), or-true)))
      (λ l. ⊎_elim
      (λ e. rw (e, cells.last (omega arith), joined-cell ((off + size) % 16) _ (i % 16) (omega arith), lt-ltb (i % 16) ((off + size) % 16) (omega arith)))
      (λ g. rw (cells.whole (i / 16) l g, lt-ltb (i % 16) 16 (omega arith)))
      (eq-or-lt_of_le {n = i / 16} {m = (off + size) / 16} (omega arith)))
      (eq-or-lt_of_le {n = off / 16} {m = i / 16} (omega arith))

  -- a byte before it stays
  byte-below : (i : ℕ) → i < off → in_cell (get_or map' (i / 16) 0) (i % 16) ≡ in_cell (get_or map (i / 16) 0) (i % 16)
  byte-below i h =
      ⊎_elim
      (λ e. rw (e, cells.first, joined-cell (free_start (get_or map (off / 16) 0)) (16 - off % 16) (i % 16) (omega arith), first-open)
      (rw (lt-leb 16 (i % 16 + (16 - off % 16)) (omega arith), lt-leb 16 (i % 16 + 0) (omega arith))))
      (λ l. rw (cells.below (i / 16) l))
      (eq-or-lt_of_le {n = i / 16} {m = off / 16} (omega arith))

  -- and so does one behind it
  byte_above : (i : ℕ) → off + size ≤ i → in_cell (get_or map' (i / 16) 0) (i % 16) ≡ in_cell (get_or map (i / 16) 0) (i % 16)
  byte_above i h = go (ltb (16 * (i / 16)) (off + size)) refl
    where
      go : (t : Bool) → ltb (16 * (i / 16)) (off + size) ≡ t → in_cell (get_or map' (i / 16) 0) (i % 16) ≡ in_cell (get_or map (i / 16) 0) (i % 16)
      go false p = rw (cells.above (i / 16) (ltb-false _ _ p))
      go true p =
          let l : 16 * (i / 16) < off + size = ltb-true _ _ p in
          let e : i / 16 ≡ (off + size) / 16 = omega arith in
          rw (e, cells.last (omega arith), joined-cell ((off + size) % 16) _ (i % 16) (omega arith), last-open (omega arith))
          (rw (le-ltb (i % 16) ((off + size) % 16) (omega arith), le-ltb (i % 16) 0 (omega arith)))

-- a byte of a range that no free block meets
apart-byte : (bs : List Block) (off size i : ℕ) → Wide bs → overlaps_any bs off size ≡ false → off ≤ i → i < off + size → is_free bs i ≡ false
apart-byte bs off size i w e h k = go (is_free bs i) refl
  where
    go : (t : Bool) → is_free bs i ≡ t → is_free bs i ≡ false
    go false p = p
    go true p =
        let f : off + (i - off) ≡ i = omega arith in
        let q = some-free bs off (i - off) size w (omega arith) (rw f p) in
        let z : ◌≡◌ {A = ℕ} 0 1 = cc in absurd (omega arith)

-- the map with the block
pub map-added : {map map' seg : List ℕ} {bs : List Block} (off size : ℕ) → Written map off size map' → 16 ≤ size → MapOf map seg bs → off + size ≤ length seg →
    overlaps_any bs off size ≡ false → MapOf map' seg (bs ++ (block off size ∷ []))
map-added {map} {map'} {seg} {bs} off size cells w m l e = record {
  wide = wide-snoc bs (block off size) m.wide w;
  bytes = λ i k. byte i k (ltb i off) refl (ltb i (off + size)) refl ∙ sym (overlaps-snoc bs (block off size) i 1);
}
  where
    apart : (i : ℕ) → off ≤ i → i < off + size → NotFree map i
    apart i h k = m.bytes i (omega arith) ∙ apart-byte bs off size i m.wide e h k

    byte : (i : ℕ) → i < length seg → (t : Bool) → ltb i off ≡ t → (u : Bool) → ltb i (off + size) ≡ u →
        in_cell (get_or map' (i / 16) 0) (i % 16) ≡ (is_free bs i || overlaps (block off size) i 1)
    byte i k true p u q =
        let h : i < off = ltb-true _ _ p in
        byte-below cells w apart i h ∙ m.bytes i k ∙ rw (overlaps-not-below 0 off size i 1 (omega arith), or-false)
    byte i k false p true q =
        let h : off ≤ i = ltb-false _ _ p in
        let g : i < off + size = ltb-true _ _ q in
        byte-in cells w apart i h g ∙ rw (overlaps-hit 0 off size i 1 (omega arith) g, or-true)
    byte i k false p false q =
        let h : off + size ≤ i = ltb-false _ _ q in
        byte_above cells w apart i h ∙ m.bytes i k ∙ rw (overlaps-not-above 0 off size i 1 h, or-false)
