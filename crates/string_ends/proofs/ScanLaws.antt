-- The bytes from off on, up to the end of their cell, looked at one after the other.
use Prim.Native.Nat.{ℕ, ◌+◌, ◌*◌, ◌-◌, ◌/◌, ◌%◌, ◌≤◌, ◌<◌}
use mathlib.Core.Bool.{true, false}
use mathlib.Core.List.{List}
use mathlib.Core.Path.{◌≡◌, refl, sym, ◌∙◌}
use native.Mathlib.Omega.{arith}
use lib.ListN.{length, get_or}
use Rattle.format.specs.Blocks.{Block}
use Rattle.free_map.specs.FreeMap.{free_start, free_end}
use Rattle.string_ends.specs.Ends.{ends_outside, marked}
use Rattle.string_ends.specs.Cells.{CellOf}
use Rattle.string_ends.proofs.ByteLaws.{ends-behind}
use Rattle.string_ends.proofs.NumberLaws.{end-most}
use Rattle.string_ends.proofs.CellLaws.{cell-start, cell-nul, cell-next, cell-end}

-- before the byte i of the segment; the cell's first byte is `start`, and `end` of its bytes stand before the free ones at its end
pub record Scan (seg : List ℕ) (v off start end i : ℕ) : Type 0 where
  pub cell : start ≡ 16 * (off / 16)
  pub free : end + free_end v ≡ 16
  pub first : start + free_start v ≤ off
  pub behind : off ≤ i
  pub most : i ≤ start + 16
  pub short : 0 < free_end v → i < start + 16
  pub same : (bs : List Block) → CellOf seg bs (off / 16) v → ends_outside seg bs off ≡ ends_outside seg bs i

-- a free byte at the cell's start
pub scan-free : (seg : List ℕ) (v off : ℕ) → off % 16 < free_start v → (bs : List Block) → CellOf seg bs (off / 16) v → false ≡ ends_outside seg bs off
scan-free seg v off h bs k =
    let e : 16 * (off / 16) + off % 16 ≡ off = omega arith in
    sym (rw e at (cell-start k (off % 16) (omega arith) h))

-- the cell of its first byte
pub same-cell : {seg : List ℕ} {bs : List Block} {c v : ℕ} → CellOf seg bs c v → CellOf seg bs (16 * c / 16) v
same-cell {c = c} k = let e : 16 * c / 16 ≡ c = omega arith in rw e k

-- no byte looked at
pub scan-none : (seg : List ℕ) (v off : ℕ) → v < 256 → free_start v ≤ off % 16 → Scan seg v off (off - off % 16) (16 - free_end v) off
scan-none seg v off b h = record {
  cell = omega arith;
  free = omega (arith, end-most v b);
  first = omega arith;
  behind = omega arith;
  most = omega arith;
  short = λ p. omega arith;
  same = λ bs k. refl;
}

-- by what is met at i
module _ (seg : List ℕ) (v off start end i : ℕ) (s : Scan seg v off start end i) where
  -- i in its cell
  placed : 16 * (off / 16) + (i - start) ≡ i
  placed = omega (arith, s.cell, s.behind, s.first)

  -- the segment's end
  pub scan-behind : length seg ≤ i → (bs : List Block) → CellOf seg bs (off / 16) v → false ≡ ends_outside seg bs off
  scan-behind h bs k = sym (s.same bs k ∙ ends-behind seg bs i h)

  -- a byte that isn't free
  module _ (l : i - start < end) (h : i < length seg) where
    pub scan-nul : get_or seg i 0 ≡ 0 → (bs : List Block) → CellOf seg bs (off / 16) v → true ≡ ends_outside seg bs off
    scan-nul z bs k =
        let p = placed in
        let n = cell-nul k (i - start) (omega (arith, p)) (omega (arith, s.first, s.behind)) (omega (arith, s.free)) (rw p z) in
        sym (s.same bs k ∙ rw p at n)

    pub scan-next : (get_or seg i 0 ≡ 0 → ⊥) → Scan seg v off start end (i + 1)
    scan-next z = record {
      cell = s.cell;
      free = s.free;
      first = s.first;
      behind = omega (arith, s.behind);
      most = omega (arith, s.free, s.behind, s.first);
      short = λ p. omega (arith, s.free, s.behind, s.first);
      same =
          λ bs k.
          let p = placed in
          let n = cell-next k (i - start) (omega (arith, p)) (omega (arith, s.first, s.behind)) (omega (arith, s.free)) (rw p z) in
          s.same bs k ∙ rw p at n;
    }

  -- the end of the bytes that aren't free
  pub scan-end : end ≤ i - start → (bs : List Block) → CellOf seg bs (off / 16) v → marked v ≡ ends_outside seg bs off
  scan-end l bs k =
      let p = placed in
      let few : free_start v < 16 = omega (arith, s.first, s.cell) in
      let m = cell-end k (i - start) few (omega (arith, s.free)) (omega (arith, s.most)) (λ e. omega (arith, s.short e, s.behind, s.first)) in
      rw p at m ∙ sym (s.same bs k)
