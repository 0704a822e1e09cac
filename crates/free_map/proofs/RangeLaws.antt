-- Bytes that free blocks take: a range of bytes by its parts, and blocks by the last of them.
use Prim.Native.Nat.{ℕ, zero, suc, ◌+◌, ◌-◌, ◌/◌, ◌%◌, ◌≤◌, ◌<◌}
use mathlib.Core.Bool.{Bool, true, false, ◌||◌, or_assoc, or-false, and-true, and-false}
use mathlib.Core.List.{List, [], ◌∷◌, ◌++◌}
use mathlib.Core.Path.{◌≡◌, refl, ap, sym, ◌∙◌}
use native.Mathlib.Nat.{add_assoc}
use native.Mathlib.Omega.{arith}
use borrow.Author.Tests.{lt-ltb, le-ltb, lt-leb, ltb-true, ltb-false}
use lib.Dec.{ltb}
use lib.ListN.{length, get_or}
use Rattle.format.specs.Blocks.{Block, overlaps, overlaps_any}
use Rattle.free_map.specs.FreeMap.{is_free, Wide, in_cell, MapOf}

-- One block: it shares a byte with a range exactly if it does with one of the range's two parts.
module _ (b : Block) (a m n : ℕ) (w : 16 ≤ b.size) where
  abbrev Split : Type 0
  Split = overlaps b a (m + n) ≡ (overlaps b a m || overlaps b (a + m) n)

  begins-before : b.at < a + m → (u : Bool) → ltb (a + m) (b.at + b.size) ≡ u → Split
  unfolding overlaps
  begins-before h true q =
      let k : a + m < b.at + b.size = ltb-true _ _ q in
      simp (lt-ltb b.at (a + (m + n)) (omega arith), lt-ltb b.at (a + m) h, lt-ltb a (b.at + b.size) (omega arith))
  begins-before h false q = simp (lt-ltb b.at (a + (m + n)) (omega arith), lt-ltb b.at (a + m) h, q, and-false, or-false)

  begins-behind : a + m ≤ b.at → Split
  unfolding overlaps
  begins-behind h =
      simp
      (add_assoc, le-ltb b.at (a + m) h, lt-ltb a (b.at + b.size) (omega arith), lt-ltb (a + m) (b.at + b.size) (omega arith), and-true)

  block-split : Split
  block-split = go (ltb b.at (a + m)) refl
    where
      go : (t : Bool) → ltb b.at (a + m) ≡ t → Split
      go true p = begins-before (ltb-true _ _ p) _ refl
      go false p = begins-behind (ltb-false _ _ p)

-- two choices of two, by the first of each and the second of each
or-pairs : (t u v w : Bool) → ((t || u) || (v || w)) ≡ ((t || v) || (u || w))
or-pairs true u v w = refl
or-pairs false true true w = refl
or-pairs false true false w = refl
or-pairs false false v w = refl

-- a range of bytes by its two parts
pub overlaps-split : (bs : List Block) (a m n : ℕ) → Wide bs → overlaps_any bs a (m + n) ≡ (overlaps_any bs a m || overlaps_any bs (a + m) n)
unfolding overlaps_any
overlaps-split [] a m n w = refl
overlaps-split (b ∷ bs) a m n w =
    rw (block-split b a m n w.0, overlaps-split bs a m n w.1) (or-pairs (overlaps b a m) (overlaps b (a + m) n) _ _)

-- a range of bytes by its first byte and the others
pub overlaps-next : (bs : List Block) (a n : ℕ) → Wide bs → overlaps_any bs a (n + 2) ≡ (is_free bs a || overlaps_any bs (a + 1) (n + 1))
overlaps-next bs a n w = let e : n + 2 ≡ 1 + (n + 1) = omega arith in ap (overlaps_any bs a) e ∙ overlaps-split bs a 1 (n + 1) w

-- blocks by the last of them
pub overlaps-snoc : (bs : List Block) (b : Block) (a n : ℕ) → overlaps_any (bs ++ (b ∷ [])) a n ≡ (overlaps_any bs a n || overlaps b a n)
unfolding overlaps_any
overlaps-snoc [] b a n = or-false _
overlaps-snoc (c ∷ bs) b a n = rw (overlaps-snoc bs b a n) (sym (or_assoc (overlaps c a n) (overlaps_any bs a n) (overlaps b a n)))

pub wide-snoc : (bs : List Block) (b : Block) → Wide bs → 16 ≤ b.size → Wide (bs ++ (b ∷ []))
wide-snoc [] b w h = (h, tt)
wide-snoc (c ∷ bs) b w h = (w.0, wide-snoc bs b w.1 h)

-- where none of these bytes is free, no block shares one of them
pub none_free : (bs : List Block) (a n : ℕ) → Wide bs → ((k : ℕ) → k ≤ n → is_free bs (a + k) ≡ false) → overlaps_any bs a (n + 1) ≡ false
none_free bs a zero w h = let e : a ≡ a + 0 = omega arith in rw e (h 0 (omega arith))
none_free bs a (suc n) w h =
    let e : suc n + 1 ≡ (n + 1) + 1 = omega arith in
    let f : a + (n + 1) ≡ a + suc n = omega arith in
    ap (overlaps_any bs a) e ∙ overlaps-split bs a (n + 1) 1 w
    ∙ rw (none_free bs a n w (λ k l. h k (omega arith)), f) (h (suc n) (omega arith))

-- a cell of number 0 has no free byte
none-in-cell : (x : ℕ) → x < 16 → in_cell 0 x ≡ false
none-in-cell x h = simp (le-ltb x 0 (omega arith), lt-leb 16 (x + 0) (omega arith))

-- a map of zeros says that nothing is free
pub map-none : {map seg : List ℕ} → ((k : ℕ) → get_or map k 0 ≡ 0) → MapOf map seg []
unfolding overlaps_any
map-none h = record { wide = tt; bytes = λ i l. rw (h (i / 16)) (none-in-cell (i % 16) (omega arith)) }

-- so does a map of no cells
pub no-map : {seg : List ℕ} {bs : List Block} (off n : ℕ) → MapOf [] seg bs → off + n ≤ length seg → 0 < n → overlaps_any bs off n ≡ false
no-map {seg} {bs} off n m h p =
    let e : n ≡ (n - 1) + 1 = omega arith in
    ap (overlaps_any bs off) e
    ∙ none_free bs off (n - 1) m.wide (λ k l. sym (m.bytes (off + k) (omega arith)) ∙ none-in-cell ((off + k) % 16) (omega arith))
