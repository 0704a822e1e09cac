-- What a cell's number says, by the range that it lies in, and how it is made.
use Prim.Native.Nat.{ℕ, ◌+◌, ◌-◌, ◌*◌, ◌/◌, ◌%◌, ◌≤◌, ◌<◌}
use mathlib.Core.Bool.{Bool, true, false, ◌||◌, or-true}
use mathlib.Core.Path.{◌≡◌, refl, sym, ◌∙◌}
use native.Mathlib.Omega.{arith}
use borrow.Author.Tests.{lt-ltb, le-ltb, le-leb, lt-leb, ltb-true, ltb-false, leb-true, leb-false, eq-eqb, ne_eqb, eqb-true, eqb-false}
use lib.Dec.{ltb, leb, eqb}
use Rattle.free_map.specs.FreeMap.{free_start, free_end, in_cell}
use Rattle.free_map.specs.Cells.{joined_cell}

-- the number v of a cell
module _ (v : ℕ) where
  -- so many at the start
  pub start_plain : v < 17 → free_start v ≡ v
  start_plain h = rw (lt-ltb v 17 h)

  -- so many at the start, in a cell that is marked
  pub start-marked : 17 ≤ v → v < 33 → free_start v ≡ v - 17
  start-marked h k = rw (le-ltb v 17 h, lt-ltb v 33 k)

  -- some at the start and some at the end
  pub start-both : 33 ≤ v → free_start v ≡ (v - 33) % 15
  start-both h = rw (le-ltb v 17 (omega arith), le-ltb v 33 h)

  pub end_none : v < 33 → free_end v ≡ 0
  end_none h = rw (lt-ltb v 33 h)

  pub end-both : 33 ≤ v → free_end v ≡ (v - 33) / 15 + 1
  end-both h = rw (le-ltb v 33 h)

  pub start-most : free_start v ≤ 16
  start-most = go (ltb v 17) refl (ltb v 33) refl
    where
      go : (t : Bool) → ltb v 17 ≡ t → (u : Bool) → ltb v 33 ≡ u → free_start v ≤ 16
      go true p u q = omega (arith, start_plain (ltb-true v 17 p), ltb-true v 17 p)
      go false p true q = omega (arith, start-marked (ltb-false v 17 p) (ltb-true v 33 q), ltb-true v 33 q)
      go false p false q = omega (arith, start-both (ltb-false v 33 q))

  pub end-most : v < 256 → free_end v ≤ 16
  end-most h = go (ltb v 33) refl
    where
      go : (t : Bool) → ltb v 33 ≡ t → free_end v ≤ 16
      go true p = omega (arith, end_none (ltb-true v 33 p))
      go false p = omega (arith, end-both (ltb-false v 33 p))

-- the number that is made of free bytes at the start and at the end
module _ (start end : ℕ) where
  pub joined-whole : 16 ≤ start + end → joined_cell start end ≡ 16
  unfolding joined_cell
  joined-whole h = rw (le-leb 16 (start + end) h)

  pub joined-start : start + end < 16 → end ≡ 0 → joined_cell start end ≡ start
  unfolding joined_cell
  joined-start h e = rw (lt-leb 16 (start + end) h, eq-eqb end 0 e)

  pub joined-both : start + end < 16 → (end ≡ 0 → ⊥) → joined_cell start end ≡ 33 + (end - 1) * 15 + start
  unfolding joined_cell
  joined-both h e = rw (lt-leb 16 (start + end) h, ne_eqb end 0 e)

-- where these bytes don't take the whole cell, its number has both
module _ (start end : ℕ) (h : start + end < 16) where
  pub joined-fields : (free_start (joined_cell start end) ≡ start) × (free_end (joined_cell start end) ≡ end)
  joined-fields = go (eqb end 0) refl
    where
      go : (t : Bool) → eqb end 0 ≡ t → (free_start (joined_cell start end) ≡ start) × (free_end (joined_cell start end) ≡ end)
      go true p =
          let z = eqb-true end 0 p in
          rw (joined-start start end h z) (start_plain start (omega arith), end_none start (omega arith) ∙ sym z)
      go false p =
          let z = eqb-false end 0 p in
          let v = 33 + (end - 1) * 15 + start in
          let d : 33 + (end - 1) * 15 + start - 33 ≡ (end - 1) * 15 + start = omega arith in
          rw (joined-both start end h z)
          (start-both v (omega arith) ∙ omega arith, end-both v (omega arith) ∙ omega arith)

-- its free bytes
pub joined-cell : (start end x : ℕ) → x < 16 → in_cell (joined_cell start end) x ≡ (ltb x start || leb 16 (x + end))
joined-cell start end x h = go (leb 16 (start + end)) refl (ltb x start) refl
  where
    go : (t : Bool) → leb 16 (start + end) ≡ t → (u : Bool) → ltb x start ≡ u → in_cell (joined_cell start end) x ≡ (ltb x start || leb 16 (x + end))
    go false p u q = let f = joined-fields start end (leb-false _ _ p) in rw (f.0, f.1)
    go true p true q = rw (joined-whole start end (leb-true _ _ p), q, lt-ltb x 16 h)
    go true p false q =
        let k : start ≤ x = ltb-false _ _ q in
        let l : 16 ≤ start + end = leb-true _ _ p in
        rw (joined-whole start end l, lt-ltb x 16 h, le-leb 16 (x + end) (omega arith), or-true)
