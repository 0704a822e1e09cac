-- Laws of the search for the first block entered of those met.
use Prim.Native.Nat.{ℕ, ◌+◌, ◌-◌, ◌≤◌, ◌<◌}
use mathlib.Core.List.{List}
use mathlib.Core.Logic.{⊎_elim}
use mathlib.Core.Path.{◌≡◌, refl}
use native.Mathlib.Nat.{eq-or-lt_of_le}
use native.Mathlib.Omega.{arith}
use lib.ListN.{length}
use Rattle.ordering.specs.Order.{words_from}
use Rattle.ordering.proofs.OrderLaws.{below_or_not}
use Rattle.block_index.specs.Index.{Meets, Apart, start_of, merged_of}
use Rattle.block_index.specs.Search.{Sorted, Placed, LeastMet, FirstMet, first_run, second_run, number_at}
use Rattle.block_index.specs.declared.search.Run.{Run}
use Rattle.block_index.proofs.Overlaps.{overlaps-hit, overlaps-not-below, overlaps-not-above}

-- no block is met and apart
pub met-apart : (ws : List ℕ) (b a n : ℕ) → Meets ws b a n → Apart ws b a n → ⊥
met-apart ws b a n h l = let z : ◌≡◌ {A = ℕ} 0 1 = cc in omega arith

-- Of the blocks in the places from `place` to k, all of which begin before `end`, and of `least`, `low` is the least number.
pub record Lowest (ws : List ℕ) (r : Run) (end place least k low : ℕ) : Type 0 where
  pub from : place ≤ k
  pub most : low ≤ least
  pub found : (low ≡ least → ⊥) → (j : ℕ) × (place ≤ j) × (j < r.count) × (number_at ws r j ≡ low) × (start_of ws low < end)
  pub smallest : (j : ℕ) → place ≤ j → j < k → low ≤ number_at ws r j

module _ (ws : List ℕ) (r : Run) (end place least : ℕ) where
  pub lowest-none : Lowest ws r end place least place least
  lowest-none = record { from = omega arith; most = omega arith; found = λ f. absurd (f refl); smallest = λ j h l. absurd (omega arith) }

  module _ (k low : ℕ) (s : Lowest ws r end place least k low) where
    smallest-more : (b : ℕ) → b ≤ low → b ≤ number_at ws r k → (j : ℕ) → place ≤ j → j < k + 1 → b ≤ number_at ws r j
    smallest-more b h l j p q =
        ⊎_elim (λ (m : j < k). omega (arith, s.smallest j p m)) (λ (m : k ≤ j). let e : j ≡ k = omega arith in rw e l) (below_or_not j k)

    pub lowest-kept : low ≤ number_at ws r k → Lowest ws r end place least (k + 1) low
    lowest-kept l = record { from = omega (arith, s.from); most = s.most; found = s.found; smallest = smallest-more low (omega arith) l }

    pub lowest-new : k < r.count → number_at ws r k < low → start_of ws (number_at ws r k) < end → Lowest ws r end place least (k + 1) (number_at ws r k)
    lowest-new h l b = record {
      from = omega (arith, s.from);
      most = omega (arith, s.most);
      found = λ f. (k, s.from, h, refl, b);
      smallest = smallest-more (number_at ws r k) (omega arith) (omega arith);
    }

    module _ (x : Sorted ws r) where
      -- those from k on begin at the end or behind it
      lowest-met : ((j : ℕ) → k ≤ j → j < r.count → end ≤ start_of ws (number_at ws r j)) → (a n : ℕ) → a + n ≡ end → Placed ws r a place →
          LeastMet ws r a n least low
      lowest-met h a n e p = record {
        most = s.most;
        met = λ f. is-met (s.found f);
        earlier = λ c l u v. apart c v (x.ordering.onto (c - r.first) (omega arith)) l;
      }
        where
          is-met : (j : ℕ) × (place ≤ j) × (j < r.count) × (number_at ws r j ≡ low) × (start_of ws low < end) →
              Meets ws low a n × (r.first ≤ low) × (low < r.first + r.count)
          is-met w =
              let i = x.ordering.within w.0 w.2 in
              (overlaps-hit 0 _ _ a n (omega (arith, w.4)) (rw w.3 at (p.after w.0 w.1 w.2)), omega (arith, w.3), omega (arith, w.3, i))

          apart : (c : ℕ) → c < low → (j : ℕ) × (j < r.count) × (words_from ws r.base j ≡ c - r.first) → r.first ≤ c → Apart ws c a n
          apart c v w l =
              let i : number_at ws r w.0 ≡ c = omega (arith, w.2) in
              rw (← i)
              (⊎_elim
              (λ (q : w.0 < place). overlaps-not-above 0 _ _ a n (p.before w.0 q))
              (λ (q : place ≤ w.0).
              ⊎_elim
              (λ (t : w.0 < k). absurd (omega (arith, s.smallest w.0 q t)))
              (λ (t : k ≤ w.0). overlaps-not-below 0 _ _ a n (omega (arith, h w.0 t w.1)))
              (below_or_not w.0 k))
              (below_or_not w.0 place))

      -- all were looked at, or the next one begins at the end or behind it
      pub lowest-all : r.count ≤ k → (a n : ℕ) → a + n ≡ end → Placed ws r a place → LeastMet ws r a n least low
      lowest-all h = lowest-met (λ j l u. absurd (omega arith))

      pub lowest-next : k < r.count → end ≤ start_of ws (number_at ws r k) → (a n : ℕ) → a + n ≡ end → Placed ws r a place → LeastMet ws r a n least low
      lowest-next h l =
          lowest-met
          (λ j g u. ⊎_elim (λ (q : k ≡ j). rw (← q) l) (λ (q : k < j). omega (arith, x.ordering.rising k j q u)) (eq-or-lt_of_le g))

-- The least of the first run's and of the second's is the first of all.
pub least-of-both : (ws : List ℕ) (count a n low b : ℕ) → (c : ℕ) × (c < count) × Meets ws c a n →
    LeastMet ws (first_run (length ws) count) a n count low → LeastMet ws (second_run (length ws) count) a n low b → FirstMet ws count a n b
least-of-both ws count a n low b w f s = record { among = below; met = is-met; earlier = early }
  where
    early : (c : ℕ) → c < b → Apart ws c a n
    early c h =
        ⊎_elim
        (λ (l : c < merged_of count). f.earlier c (omega arith) (omega arith) (omega (arith, s.most)))
        (λ (l : merged_of count ≤ c). s.earlier c l (omega (arith, s.most, f.most)) h)
        (below_or_not c (merged_of count))

    below : b < count
    below =
        ⊎_elim
        (λ (l : b < count). l)
        (λ (l : count ≤ b). absurd (met-apart ws w.0 a n w.2 (early w.0 (omega (arith, w.1)))))
        (below_or_not b count)

    is-met : Meets ws b a n
    is-met =
        ⊎_elim
        (λ (e : b ≡ low). rw e (f.met (λ q. omega (arith, q, below))).0)
        (λ (l : b < low). (s.met (λ q. omega (arith, q))).0)
        (eq-or-lt_of_le s.most)
