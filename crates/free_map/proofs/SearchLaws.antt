-- A search for free bytes, cell by cell.
use Prim.Native.Nat.{ℕ, ◌+◌, ◌*◌, ◌-◌, ◌/◌, ◌%◌, ◌≤◌, ◌<◌}
use mathlib.Core.Bool.{Bool, true, false, ◌||◌, or-true}
use mathlib.Core.List.{List}
use mathlib.Core.Path.{◌≡◌, refl, ap, sym, ◌∙◌}
use native.Mathlib.Omega.{arith}
use borrow.Author.Tests.{lt-ltb, le-ltb, le-leb, lt-leb, ltb-true, ltb-false}
use lib.Dec.{ltb}
use lib.ListN.{length, get_or}
use Rattle.format.specs.Blocks.{Block, overlaps_any}
use Rattle.free_map.specs.FreeMap.{is_free, free_start, free_end, Wide, in_cell, MapOf}
use Rattle.free_map.specs.Cells.{cell_meets}
use Rattle.free_map.proofs.RangeLaws.{overlaps-split, none_free}

-- a cell without a free byte
pub empty-cell : (v from end : ℕ) → v ≡ 0 → end ≤ 16 → false ≡ cell_meets v from end
empty-cell v from end e h =
    let z : end + 0 ≡ end = omega arith in
    rw (e, z, le-ltb from 0 (omega arith), le-ltb 16 end h)

-- the bytes at a cell's start decide, or those at its end
module _ (v from end : ℕ) where
  pub start-decides : from < free_start v → true ≡ cell_meets v from end
  start-decides h = rw (lt-ltb from (free_start v) h)

  pub end-decides : free_start v ≤ from → ltb 16 (end + free_end v) ≡ cell_meets v from end
  end-decides h = rw (le-ltb from (free_start v) h)

-- where one of these bytes is free, a block shares it
pub some-free : (bs : List Block) (a k n : ℕ) → Wide bs → k < n → is_free bs (a + k) ≡ true → overlaps_any bs a n ≡ true
some-free bs a k n w h f =
    let e : n ≡ k + (1 + (n - (k + 1))) = omega arith in
    ap (overlaps_any bs a) e ∙ overlaps-split bs a k _ w ∙ rw (overlaps-split bs (a + k) 1 (n - (k + 1)) w, f, or-true)

-- the byte x of the cell c
pub byte_of : {map seg : List ℕ} {bs : List Block} → MapOf map seg bs → (c x : ℕ) → x < 16 → 16 * c + x < length seg →
    in_cell (get_or map c 0) x ≡ is_free bs (16 * c + x)
byte_of {map} m c x h l =
    let d : (16 * c + x) / 16 ≡ c = omega arith in
    let r : (16 * c + x) % 16 ≡ x = omega arith in
    rw (d, r) at (m.bytes (16 * c + x) l)

-- the bytes of the cell c from `from` up to `end`
module _ {map seg : List ℕ} {bs : List Block} (m : MapOf map seg bs) (c from end : ℕ) (h : from < end) (k : end ≤ 16) (l : 16 * c + end ≤ length seg) where
  abbrev Range : Type 0
  Range = overlaps_any bs (16 * c + from) (end - from) ≡ cell_meets (get_or map c 0) from end

  start-met : from < free_start (get_or map c 0) → Range
  start-met p =
      let e : 16 * c + from + 0 ≡ 16 * c + from = omega arith in
      some-free bs (16 * c + from) 0 (end - from) m.wide (omega arith)
      (rw e (sym (byte_of m c from (omega arith) (omega arith)) ∙ rw (lt-ltb from (free_start (get_or map c 0)) p)))
      ∙ rw (lt-ltb from (free_start (get_or map c 0)) p)

  end-met : 16 < end + free_end (get_or map c 0) → Range
  end-met p =
      let e : 16 * c + from + (end - 1 - from) ≡ 16 * c + (end - 1) = omega arith in
      some-free bs (16 * c + from) (end - 1 - from) (end - from) m.wide (omega arith)
      (rw e (sym (byte_of m c (end - 1) (omega arith) (omega arith)) ∙ rw (le-leb 16 (end - 1 + free_end (get_or map c 0)) (omega arith), or-true)))
      ∙ rw (lt-ltb 16 (end + free_end (get_or map c 0)) p, or-true)

  none-met : free_start (get_or map c 0) ≤ from → end + free_end (get_or map c 0) ≤ 16 → Range
  none-met p q =
      let e : end - from ≡ (end - 1 - from) + 1 = omega arith in
      rw (e, le-ltb from (free_start (get_or map c 0)) p, le-ltb 16 (end + free_end (get_or map c 0)) q)
      (none_free bs (16 * c + from) (end - 1 - from) m.wide (λ x g. byte x (omega arith)))
    where
      byte : (x : ℕ) → x < end - from → is_free bs (16 * c + from + x) ≡ false
      byte x g =
          let e : 16 * c + from + x ≡ 16 * c + (from + x) = omega arith in
          rw e
          (sym (byte_of m c (from + x) (omega arith) (omega arith))
          ∙ rw (le-ltb (from + x) (free_start (get_or map c 0)) (omega arith), lt-leb 16 (from + x + free_end (get_or map c 0)) (omega arith)))

  pub cell-range : Range
  cell-range = go (ltb from (free_start (get_or map c 0))) refl (ltb 16 (end + free_end (get_or map c 0))) refl
    where
      go : (t : Bool) → ltb from (free_start (get_or map c 0)) ≡ t → (u : Bool) → ltb 16 (end + free_end (get_or map c 0)) ≡ u → Range
      go true p u q = start-met (ltb-true _ _ p)
      go false p true q = end-met (ltb-true _ _ q)
      go false p false q = none-met (ltb-false _ _ p) (ltb-false _ _ q)

-- what the whole search finds is what it finds from the byte `at` on
abbrev pub Left : List ℕ → ℕ → ℕ → ℕ → Type 0
Left map off size at = (seg : List ℕ) (bs : List Block) → MapOf map seg bs → off + size ≤ length seg →
    overlaps_any bs off size ≡ overlaps_any bs at (off + size - at)

pub left-first : (map : List ℕ) (off size : ℕ) → Left map off size (16 * (off / 16) + off % 16)
left-first map off size seg bs m h =
    let e : 16 * (off / 16) + off % 16 ≡ off = omega arith in
    let f : off + size - off ≡ size = omega arith in rw (e, f)

-- one turn of it, at the byte `from` of the cell c
module _ (map : List ℕ) (off size c from : ℕ) (left : Left map off size (16 * c + from)) (h : from < 16) (k : 16 * c + 16 < off + size) where
  turn : (seg : List ℕ) (bs : List Block) → MapOf map seg bs → off + size ≤ length seg →
      overlaps_any bs off size ≡ (cell_meets (get_or map c 0) from 16 || overlaps_any bs (16 * (c + 1) + 0) (off + size - (16 * (c + 1) + 0)))
  turn seg bs m l =
      let e : off + size - (16 * c + from) ≡ (16 - from) + (off + size - (16 * (c + 1) + 0)) = omega arith in
      let f : 16 * c + from + (16 - from) ≡ 16 * (c + 1) + 0 = omega arith in
      left seg bs m l ∙ rw (e, overlaps-split bs (16 * c + from) (16 - from) _ m.wide, f, cell-range m c from 16 h (omega arith) (omega arith))

  pub turn-hit : cell_meets (get_or map c 0) from 16 ≡ true → (seg : List ℕ) (bs : List Block) → MapOf map seg bs → off + size ≤ length seg →
      true ≡ overlaps_any bs off size
  turn-hit t seg bs m l = sym (turn seg bs m l ∙ rw t)

  pub turn-miss : cell_meets (get_or map c 0) from 16 ≡ false → Left map off size (16 * (c + 1) + 0)
  turn-miss t seg bs m l = turn seg bs m l ∙ rw t

-- the last cell, whose byte `end` is behind the range
pub turn_last : (map : List ℕ) (off size c from end : ℕ) → Left map off size (16 * c + from) → from < end → end ≤ 16 → 16 * c + end ≡ off + size →
    (seg : List ℕ) (bs : List Block) → MapOf map seg bs → off + size ≤ length seg → cell_meets (get_or map c 0) from end ≡ overlaps_any bs off size
turn_last map off size c from end left h k q seg bs m l =
    let e : off + size - (16 * c + from) ≡ end - from = omega arith in
    sym (left seg bs m l ∙ rw e (cell-range m c from end h k (omega arith)))
