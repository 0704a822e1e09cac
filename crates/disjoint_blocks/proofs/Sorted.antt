-- Things that lie apart have an order: their numbers in one run, or in two.
use Prim.Native.Nat.{ℕ, zero, suc, ◌+◌, ◌-◌, ◌≤◌, ◌<◌}
use mathlib.Core.Logic.{◌⊎◌, ⊎_elim}
use mathlib.Core.Path.{◌≡◌}
use native.Mathlib.Nat.{eq-or-lt_of_le}
use native.Mathlib.Omega.{arith}
use borrow.Author.Tests.{lt-ltb, le-ltb, eq-eqb, ne_eqb}
use lib.Dec.{ltb, eqb}
use Rattle.std.specs.Prelude.{if◌then◌else◌}
use Rattle.ordering.specs.Order.{Ordering}
use Rattle.ordering.specs.Merge.{TwoRuns}
use Rattle.ordering.proofs.OrderLaws.{below_or_not, ordering-more}
use Rattle.ordering.proofs.RunLaws.{ordering-none}
use Rattle.ordering.proofs.MergedCases.{Reached, reach}

-- the numbers f with v put in place q
unfoldable put : (ℕ → ℕ) → ℕ → ℕ → ℕ → ℕ
put f q v k = if ltb k q then f k else if eqb k q then v else f (k - 1)

module _ (f : ℕ → ℕ) (q v : ℕ) where
  put-below : (k : ℕ) → k < q → put f q v k ≡ f k
  unfolding put
  put-below k h = simp (lt-ltb k q h)

  put-here : put f q v q ≡ v
  unfolding put
  put-here = simp (le-ltb q q (omega arith), eq-eqb q q (omega arith))

  put-above : (k : ℕ) → q ≤ k → put f q v (k + 1) ≡ f k
  unfolding put
  put-above k h =
      let e : k + 1 - 1 ≡ k = omega arith in
      simp (le-ltb (k + 1) q (omega arith), ne_eqb (k + 1) q (λ d. omega (arith, d)), e)

-- Things that end where they begin or later. The numbers f 0 to f (n - 1) lie one behind the other, and one more thing, from y to e, lies
-- apart from each of them.
module _ (start behind : ℕ → ℕ) (after : (b : ℕ) → start b ≤ behind b) (f : ℕ → ℕ) (n : ℕ)
    (rising : (j k : ℕ) → j < k → k < n → behind (f j) ≤ start (f k)) (y e : ℕ)
    (apart : (k : ℕ) → k < n → (behind (f k) ≤ y) ⊎ (e ≤ start (f k))) (w : Reached (λ k. behind (f k)) (y + 1) n) where
  place-before : (k : ℕ) → k < w.k → behind (f k) ≤ y
  place-before k h = omega (arith, w.lower k h)

  -- those from its place on end behind its start
  ends : (k : ℕ) → w.k ≤ k → k < n → y < behind (f k)
  ends k h l =
      ⊎_elim
      (λ (d : w.k ≡ k). rw (← d) (omega (arith, w.next (omega arith))))
      (λ (u : w.k < k). omega (arith, w.next (omega arith), rising w.k k u l, after (f k)))
      (eq-or-lt_of_le h)

  place-behind : (k : ℕ) → w.k ≤ k → k < n → e ≤ start (f k)
  place-behind k h l = ⊎_elim (λ (d : behind (f k) ≤ y). absurd (omega (arith, ends k h l))) (λ d. d) (apart k l)

-- one thing more than n in order
module _ (start behind : ℕ → ℕ) (after : (b : ℕ) → start b ≤ behind b) (f : ℕ → ℕ) (n : ℕ) (o : Ordering (λ i j. behind i ≤ start j) f n)
    (apart : (b : ℕ) → b < n → (behind b ≤ start n) ⊎ (behind n ≤ start b)) where
  place : Reached (λ k. behind (f k)) (start n + 1) n
  place = reach (λ k. behind (f k)) (start n + 1) n

  others : (k : ℕ) → k < n → (behind (f k) ≤ start n) ⊎ (behind n ≤ start (f k))
  others k h = apart (f k) (o.within k h)

  sorted_more : (f' : ℕ → ℕ) × Ordering (λ i j. behind i ≤ start j) f' (n + 1)
  sorted_more = (
    put f place.k n,
    ordering-more (λ i j. behind i ≤ start j) f (put f place.k n) n place.k place.few o
        (put-below f place.k n) (put-here f place.k n) (λ k h l. put-above f place.k n k h)
        (place-before start behind after f n o.rising (start n) (behind n) others place)
        (place-behind start behind after f n o.rising (start n) (behind n) others place),
  )

-- n things that lie apart have an order
sorted : (start behind : ℕ → ℕ) → ((b : ℕ) → start b ≤ behind b) → (n : ℕ) →
    ((i j : ℕ) → i < j → j < n → (behind i ≤ start j) ⊎ (behind j ≤ start i)) → (f : ℕ → ℕ) × Ordering (λ i j. behind i ≤ start j) f n
sorted start behind after zero apart = (λ k. 0, ordering-none _ _)
sorted start behind after (suc n) apart =
    let r = sorted start behind after n (λ i j h l. apart i j h (omega arith)) in
    let s : suc n ≡ n + 1 = omega arith in
    rw s (sorted_more start behind after r.0 n r.1 (λ b h. apart b n h (omega arith)))

-- m things, and s others, numbered from m on, all apart
module _ (start behind : ℕ → ℕ) (after : (b : ℕ) → start b ≤ behind b) (m s : ℕ)
    (apart : (i j : ℕ) → i < j → j < m + s → (behind i ≤ start j) ⊎ (behind j ≤ start i)) where
  -- each of the two in an order of its own
  module _ (f g : ℕ → ℕ) (o : Ordering (λ i j. behind i ≤ start j) f m) (q : Ordering (λ i j. behind (m + i) ≤ start (m + j)) g s) where
    -- the places of the others among the first
    places : (k : ℕ) → Reached (λ j. behind (f j)) (start (m + g k) + 1) m
    places k = reach (λ j. behind (f j)) (start (m + g k) + 1) m

    firsts : (k : ℕ) → k < s → (j : ℕ) → j < m → (behind (f j) ≤ start (m + g k)) ⊎ (behind (m + g k) ≤ start (f j))
    firsts k h j l = apart (f j) (m + g k) (omega (arith, o.within j l)) (omega (arith, q.within k h))

    places-rise : (j k : ℕ) → j < k → k < s → (places j).k ≤ (places k).k
    places-rise j k h l =
        ⊎_elim
        (λ (u : (places k).k < (places j).k).
        let next = (places k).next (omega (arith, (places j).few)) in
        absurd (omega (arith, next, (places j).lower (places k).k u, q.rising j k h l, after (m + g j))))
        (λ (u : (places j).k ≤ (places k).k). u)
        (below_or_not (places k).k (places j).k)

    two_runs : TwoRuns (λ i j. behind i ≤ start j) f g (λ k. (places k).k) m s
    two_runs = record {
      first = o;
      second = q;
      most = λ k h. (places k).few;
      rising = places-rise;
      before = λ j k h. place-before start behind after f m o.rising (start (m + g k)) (behind (m + g k)) (firsts k h) (places k) j;
      behind = λ j k h. place-behind start behind after f m o.rising (start (m + g k)) (behind (m + g k)) (firsts k h) (places k) j;
    }

  first_run : (f : ℕ → ℕ) × Ordering (λ i j. behind i ≤ start j) f m
  first_run = sorted start behind after m (λ i j h l. apart i j h (omega arith))

  second_run : (g : ℕ → ℕ) × Ordering (λ i j. behind (m + i) ≤ start (m + j)) g s
  second_run =
      sorted (λ i. start (m + i)) (λ i. behind (m + i)) (λ i. after (m + i)) s (λ i j h l. apart (m + i) (m + j) (omega arith) (omega arith))

  pub two-sorted : (f : ℕ → ℕ) × (g : ℕ → ℕ) × (p : ℕ → ℕ) × TwoRuns (λ i j. behind i ≤ start j) f g p m s
  two-sorted =
      let f = first_run in
      let g = second_run in
      (f.0, g.0, (λ k. (places f.0 g.0 f.1 g.1 k).k), two_runs f.0 g.0 f.1 g.1)
