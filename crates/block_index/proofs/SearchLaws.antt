-- Laws of the search in one run: the halving, how many tests it takes, and what the place found decides.
use Prim.Native.Nat.{ℕ, ◌+◌, ◌-◌, ◌*◌, ◌^◌, ◌≤◌, ◌<◌}
use mathlib.Core.Bool.{true, false}
use mathlib.Core.List.{List}
use mathlib.Core.Logic.{⊎_elim}
use mathlib.Core.Path.{◌≡◌}
use native.Mathlib.Omega.{arith}
use native.Mathlib.Nat.{eq-or-lt_of_le}
use borrow.Author.Tests.{ltb-true, ltb-false}
use lib.Dec.{ltb}
use lib.ListN.{length}
use Rattle.ordering.specs.Order.{words_from}
use Rattle.ordering.proofs.OrderLaws.{below_or_not}
use Rattle.block_index.specs.Index.{start_of, behind_of, Meets, Apart}
use Rattle.block_index.specs.Search.{number_at, Sorted, Placed}
use Rattle.block_index.specs.declared.search.Run.{Run}
use Rattle.block_index.proofs.Overlaps.{overlaps-hit, overlaps-not-below, overlaps-not-above}

-- a block of the run: its number in the run, the place of its words, and the byte behind it
module _ (ws : List ℕ) (r : Run) (x : Sorted ws r) (k : ℕ) (h : k < r.count) where
  pub number-below : words_from ws r.base k < r.count
  number-below = x.ordering.within k h

  pub words_inside : 4 * number_at ws r k + 1 < length ws
  words_inside = omega (arith, number-below, x.listed)

  pub behind-small : behind_of ws (number_at ws r k) < 2 ^ 64
  behind-small = x.small (words_from ws r.base k) number-below

-- The blocks before a place end at the byte a or before it, if the last of them does; those from there on don't, if the first of them doesn't.
module _ (ws : List ℕ) (r : Run) (a : ℕ) (x : Sorted ws r) where
  pub placed_by : (p : ℕ) → p ≤ r.count → ((k : ℕ) → k + 1 ≡ p → behind_of ws (number_at ws r k) ≤ a) →
      (p < r.count → a < behind_of ws (number_at ws r p)) → Placed ws r a p
  placed_by p m b u = record {
    most = m;
    before = λ k h. ⊎_elim (λ (q : k + 1 ≡ p). b k q) (λ (q : k + 1 < p). earlier k q) (eq-or-lt_of_le (omega arith));
    after = λ k h l. ⊎_elim (λ (q : p ≡ k). rw (← q) (u (omega arith))) (λ (q : p < k). later k q l) (eq-or-lt_of_le h);
  }
    where
      earlier : (k : ℕ) → k + 1 < p → behind_of ws (number_at ws r k) ≤ a
      earlier k q = omega (arith, x.ordering.rising k (p - 1) (omega arith) (omega arith), b (p - 1) (omega arith))

      later : (k : ℕ) → p < k → k < r.count → a < behind_of ws (number_at ws r k)
      later k q l = omega (arith, x.ordering.rising p k q l, u (omega arith))

-- the place in a run of no blocks, and the one behind a last block that ends at the byte or before it
pub placed-none : (ws : List ℕ) (r : Run) (a : ℕ) → r.count ≡ 0 → Placed ws r a 0
placed-none ws r a e = record { most = omega arith; before = λ k h. absurd (omega arith); after = λ k h l. absurd (omega arith) }

pub placed-last : (ws : List ℕ) (r : Run) (a : ℕ) → Sorted ws r → behind_of ws (number_at ws r (r.count - 1)) ≤ a → Placed ws r a r.count
placed-last ws r a x e = record { most = omega arith; before = earlier; after = λ k h l. absurd (omega arith) }
  where
    earlier : (k : ℕ) → k < r.count → behind_of ws (number_at ws r k) ≤ a
    earlier k h =
        ⊎_elim
        (λ (q : k ≡ r.count - 1). rw q e)
        (λ (q : k < r.count - 1). omega (arith, x.ordering.rising k (r.count - 1) q (omega arith)))
        (eq-or-lt_of_le (omega arith))

pub never_met : {A : Type 0} → false ≡ true → A
never_met e =
    let z : ◌≡◌ {A = ℕ} 0 1 = cc in
    absurd (omega arith)

-- What the place decides: only the block there can be the first of those met.
module _ (ws : List ℕ) (r : Run) (a m place : ℕ) (x : Sorted ws r) (p : Placed ws r a place) where
  -- the block in each place of the order is not met
  none-met : ((k : ℕ) → place ≤ k → k < r.count → a + m ≤ start_of ws (number_at ws r k)) → (b : ℕ) → b < r.count → Apart ws (r.first + b) a m
  none-met h b l = apart (x.ordering.onto b l)
    where
      apart : (k : ℕ) × (k < r.count) × (words_from ws r.base k ≡ b) → Apart ws (r.first + b) a m
      apart w =
          rw (← w.2)
          (⊎_elim
          (λ (q : w.0 < place). overlaps-not-above 0 _ _ a m (p.before w.0 q))
          (λ (q : place ≤ w.0). overlaps-not-below 0 _ _ a m (h w.0 q w.1))
          (below_or_not w.0 place))

  pub place-last : r.count ≤ place → (b : ℕ) → b < r.count → Apart ws (r.first + b) a m
  place-last h = none-met (λ k l u. absurd (omega arith))

  module _ (end : ℕ) (h : place < r.count) (e : a + m ≡ end) where
    pub place-hit : ltb (start_of ws (number_at ws r place)) end ≡ true → (b : ℕ) × (b < r.count) × Meets ws (r.first + b) a m
    place-hit q = (
      words_from ws r.base place,
      number-below ws r x place h,
      overlaps-hit 0 _ _ a m (omega (arith, ltb-true (start_of ws (number_at ws r place)) end q)) (p.after place (omega arith) h),
    )

    pub place-apart : ltb (start_of ws (number_at ws r place)) end ≡ false → (b : ℕ) → b < r.count → Apart ws (r.first + b) a m
    place-apart q = none-met behind
      where
        begins : a + m ≤ start_of ws (number_at ws r place)
        begins = omega (arith, ltb-false (start_of ws (number_at ws r place)) end q)

        behind : (k : ℕ) → place ≤ k → k < r.count → a + m ≤ start_of ws (number_at ws r k)
        behind k g u =
            ⊎_elim
            (λ (q : place ≡ k). rw (← q) begins)
            (λ (q : place < k). omega (arith, begins, x.ordering.rising place k q u))
            (eq-or-lt_of_le g)
