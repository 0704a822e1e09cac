-- A cell's number: its mark, its bounds, and the number with another mark.
use Prim.Native.Nat.{ℕ, ◌+◌, ◌≤◌, ◌<◌}
use mathlib.Core.Bool.{Bool, true, false, and-false}
use mathlib.Core.Path.{◌≡◌, refl, sym, ◌∙◌}
use native.Mathlib.Omega.{arith}
use borrow.Author.Tests.{ltb-true, ltb-false, lt-ltb, le-leb, lt-leb}
use lib.Dec.{ltb}
use Rattle.free_map.specs.FreeMap.{free_start, free_end}
use Rattle.free_map.proofs.CellLaws.{start_plain, start-marked, end_none, end-both}
use Rattle.string_ends.specs.Ends.{marked}
use Rattle.string_ends.specs.Cells.{Remarked}

-- the mark and the bounds of a number
module _ (v : ℕ) where
  pub mark-low : v < 17 → marked v ≡ false
  mark-low h = rw (lt-leb 17 v h)

  -- from 17 on the other bound decides
  pub mark-from : 17 ≤ v → marked v ≡ ltb v 33
  mark-from h = rw (le-leb 17 v h)

  -- a free byte at the end leaves no mark
  pub mark-none : 0 < free_end v → marked v ≡ false
  mark-none h = go (ltb v 33) refl
    where
      go : (t : Bool) → ltb v 33 ≡ t → marked v ≡ false
      go true p = absurd (omega (arith, end_none v (ltb-true v 33 p)))
      go false p = simp (p, and-false)

  -- at least one byte of a cell isn't free at its end
  pub end-most : v < 256 → free_end v < 16
  end-most h = go (ltb v 33) refl
    where
      go : (t : Bool) → ltb v 33 ≡ t → free_end v < 16
      go true p = omega (arith, end_none v (ltb-true v 33 p))
      go false p = omega (arith, end-both v (ltb-false v 33 p), ltb-false v 33 p)

  -- at most all bytes are free at the start
  pub start-most : v < 33 → free_start v ≤ 16
  start-most h = go (ltb v 17) refl
    where
      go : (t : Bool) → ltb v 17 ≡ t → free_start v ≤ 16
      go true p = omega (arith, start_plain v (ltb-true v 17 p), ltb-true v 17 p)
      go false p = omega (arith, start-marked v (ltb-false v 17 p) h)

-- the number with another mark
module _ (v : ℕ) where
  -- a number that stays
  pub remarked-both : (t : Bool) → 33 ≤ v → Remarked v t v
  remarked-both t h = record { start = refl; end = refl; mark = λ e s. absurd (omega (arith, end-both v h)) }

  pub remarked-whole : (t : Bool) → free_start v ≡ 16 → Remarked v t v
  remarked-whole t h = record { start = refl; end = refl; mark = λ e s. absurd (omega (arith, h)) }

  -- a number that is made of the free bytes at the start
  module _ (h : v < 33) (n : free_start v ≡ 16 → ⊥) where
    few : free_start v < 16
    few = omega (arith, start-most v h, n)

    pub remarked-true : Remarked v true (free_start v + 17)
    remarked-true =
        let f = few in
        let r = free_start v + 17 in record {
          start = omega (arith, start-marked r (omega arith) (omega arith));
          end = end_none r (omega arith) ∙ sym (end_none v h);
          mark = λ e s. mark-from r (omega arith) ∙ lt-ltb r 33 (omega arith);
        }

    pub remarked-false : Remarked v false (free_start v)
    remarked-false =
        let f = few in
        let r = free_start v in
        record { start = start_plain r (omega arith); end = end_none r (omega arith) ∙ sym (end_none v h); mark = λ e s. mark-low r (omega arith) }
