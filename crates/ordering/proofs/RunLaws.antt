-- Laws of two runs: they begin empty, take one number more, are merged, and stay under an order that follows.
use Prim.Native.Nat.{ℕ, ◌+◌, ◌-◌, ◌≤◌, ◌<◌}
use mathlib.Core.Logic.{⊎_elim}
use mathlib.Core.Path.{◌≡◌, ◌∙◌}
use native.Mathlib.Omega.{arith}
use native.Mathlib.Nat.{eq-or-lt_of_le}
use Rattle.ordering.specs.Order.{Ordering}
use Rattle.ordering.specs.Merge.{TwoRuns, Merged}
use Rattle.ordering.proofs.OrderLaws.{below_or_not, ordering-more}
use Rattle.ordering.proofs.MergedCases.{reach, rises, merged-cases}

pub ordering-none : (Before : ℕ → ℕ → Type 0) (f : ℕ → ℕ) → Ordering Before f 0
ordering-none Before f = record {
  within = λ k h. absurd (omega arith);
  onto = λ b h. absurd (omega arith);
  rising = λ j k h l. absurd (omega arith);
}

pub runs-first : (Before : ℕ → ℕ → Type 0) (f g p : ℕ → ℕ) (m : ℕ) → Ordering Before f m → TwoRuns Before f g p m 0
runs-first Before f g p m o = record {
  first = o;
  second = ordering-none (λ i j. Before (m + i) (m + j)) g;
  most = λ k h. absurd (omega arith);
  rising = λ j k h l. absurd (omega arith);
  before = λ j k h l. absurd (omega arith);
  behind = λ j k h l u. absurd (omega arith);
}

pub runs_none : (Before : ℕ → ℕ → Type 0) (f g p : ℕ → ℕ) → TwoRuns Before f g p 0 0
runs_none Before f g p = runs-first Before f g p 0 (ordering-none Before f)

-- One number more, s of the second run, at place q of it; v of the first run stand before it.
module _ (Before : ℕ → ℕ → Type 0) (f g p g' p' : ℕ → ℕ) (m s q v : ℕ) (t : TwoRuns Before f g p m s) (few : q ≤ s) (most : v ≤ m)
    (g-below : (k : ℕ) → k < q → g' k ≡ g k) (g-here : g' q ≡ s) (g-above : (k : ℕ) → q ≤ k → k < s → g' (k + 1) ≡ g k)
    (p-below : (k : ℕ) → k < q → p' k ≡ p k) (p-here : p' q ≡ v) (p-above : (k : ℕ) → q ≤ k → k < s → p' (k + 1) ≡ p k)
    (earlier : (k : ℕ) → k < q → Before (m + g k) (m + s)) (later : (k : ℕ) → q ≤ k → k < s → Before (m + s) (m + g k))
    (before : (j : ℕ) → j < v → Before (f j) (m + s)) (behind : (j : ℕ) → v ≤ j → j < m → Before (m + s) (f j))
    (lower : (k : ℕ) → k < q → p k ≤ v) (higher : (k : ℕ) → q ≤ k → k < s → v ≤ p k) where
  -- the k-th of the second run with its place: one of those before the new one, the new one, or one of those behind it
  cases : (P : ℕ → ℕ → ℕ → Type 0) → ((k : ℕ) → k < q → P k (g k) (p k)) → P q s v → ((k : ℕ) → q ≤ k → k < s → P (k + 1) (g k) (p k)) →
      (k : ℕ) → k < s + 1 → P k (g' k) (p' k)
  cases P low mid high k h =
      ⊎_elim
      (λ (l : k < q). rw (g-below k l, p-below k l) (low k l))
      (λ (l : q ≤ k).
      ⊎_elim
      (λ (e : q ≡ k). rw (← e, g-here, p-here) mid)
      (λ (u : q < k). next (k - 1) (omega arith) (omega arith) (omega arith))
      (eq-or-lt_of_le l))
      (below_or_not k q)
    where
      next : (j : ℕ) → k ≡ j + 1 → q ≤ j → j < s → P k (g' k) (p' k)
      next j e l u = rw (e, g-above j l u, p-above j l u) (high j l u)

  pub runs-more : TwoRuns Before f g' p' m (s + 1)
  runs-more = record {
    first = t.first;
    second = ordering-more (λ i j. Before (m + i) (m + j)) g g' s q few t.second g-below g-here g-above earlier later;
    most = cases (λ k b a. a ≤ m) (λ k h. t.most k (omega arith)) most (λ k l h. t.most k h);
    rising = λ j k h l.
        cases (λ k b a. (j : ℕ) → j < k → p' j ≤ a)
        (λ k h j l. rw (p-below j (omega arith)) (t.rising j k l (omega arith)))
        (λ j l. rw (p-below j l) (lower j l))
        (λ k h u j l.
        cases (λ j b a. j < k + 1 → a ≤ p k)
        (λ j x w. t.rising j k (omega arith) u)
        (λ w. higher k h u)
        (λ j x y w. t.rising j k (omega arith) u)
        j (omega arith) l)
        k l j h;
    before = λ j k h.
        cases (λ k b a. j < a → Before (f j) (m + b)) (λ k h. t.before j k (omega arith)) (before j) (λ k l h. t.before j k h) k h;
    behind = λ j k h.
        cases (λ k b a. a ≤ j → j < m → Before (m + b) (f j)) (λ k h. t.behind j k (omega arith)) (behind j) (λ k l h. t.behind j k h) k h;
  }

-- The same numbers, under an order that follows from the old one.
pub ordering-same : (Before Before' : ℕ → ℕ → Type 0) (f f' : ℕ → ℕ) (n : ℕ) → Ordering Before f n → ((k : ℕ) → k < n → f' k ≡ f k) →
    ((i j : ℕ) → i < n → j < n → Before i j → Before' i j) → Ordering Before' f' n
ordering-same Before Before' f f' n o same follows = record {
  within = λ k h. rw (same k h) (o.within k h);
  onto = λ b h. let w = o.onto b h in (w.0, w.1, same w.0 w.1 ∙ w.2);
  rising = λ j k h l.
      let u : j < n = omega arith in
      rw (same j u, same k l) (follows (f j) (f k) (o.within j u) (o.within k l) (o.rising j k h l));
}

pub runs_same : (Before Before' : ℕ → ℕ → Type 0) (f g p f' g' p' : ℕ → ℕ) (m s : ℕ) → TwoRuns Before f g p m s →
    ((k : ℕ) → k < m → f' k ≡ f k) → ((k : ℕ) → k < s → g' k ≡ g k) → ((k : ℕ) → k < s → p' k ≡ p k) →
    ((i j : ℕ) → i < m + s → j < m + s → Before i j → Before' i j) → TwoRuns Before' f' g' p' m s
runs_same Before Before' f g p f' g' p' m s t same-f same-g same-p follows = record {
  first = ordering-same Before Before' f f' m t.first same-f (λ i j h l. follows i j (omega arith) (omega arith));
  second =
      ordering-same (λ i j. Before (m + i) (m + j)) (λ i j. Before' (m + i) (m + j)) g g' s t.second same-g
      (λ i j h l. follows (m + i) (m + j) (omega arith) (omega arith));
  most = λ k h. rw (same-p k h) (t.most k h);
  rising = λ j k h l. rw (same-p j (omega arith), same-p k l) (t.rising j k h l);
  before = λ j k h l.
      let u : j < p k = rw (same-p k h) at l in
      let i : j < m = omega (arith, t.most k h) in
      rw (same-f j i, same-g k h)
      (follows (f j) (m + g k) (omega (arith, t.first.within j i)) (omega (arith, t.second.within k h)) (t.before j k h u));
  behind = λ j k h l i.
      let u : p k ≤ j = rw (same-p k h) at l in
      rw (same-f j i, same-g k h)
      (follows (m + g k) (f j) (omega (arith, t.second.within k h)) (omega (arith, t.first.within j i)) (t.behind j k h u i));
}

-- Merged, the two are one ordering.
module _ (Before : ℕ → ℕ → Type 0) (f g p f' : ℕ → ℕ) (m s : ℕ) (t : TwoRuns Before f g p m s) (d : Merged f g p m s f') where
  -- what stands before the k-th of the second run
  second-behind : (k : ℕ) → k < s → (x : ℕ) → x < m + s → x < p k + k → Before (f' x) (m + g k)
  second-behind k h =
      merged-cases Before f g p f' m s t d (λ x a. x < p k + k → Before a (m + g k))
      (λ i l u.
      let less : i < k = ⊎_elim (λ x. x) (λ (w : k ≤ i). absurd (omega (arith, rises t k i w l))) (below_or_not i k) in
      t.second.rising i k less h)
      (λ j i l n a b u.
      let less : j < p k = ⊎_elim (λ (w : k < i). omega arith) (λ (w : i ≤ k). omega (arith, b (omega arith), rises t i k w h)) (below_or_not k i) in
      t.before j k h less)

  -- what stands before the j-th of the first run, which has k of the second before it
  first-behind : (j k : ℕ) → j < m → k ≤ s → ((i : ℕ) → i < k → p i ≤ j) → (x : ℕ) → x < m + s → x < j + k → Before (f' x) (f j)
  first-behind j k h n a =
      merged-cases Before f g p f' m s t d (λ x y. x < j + k → Before y (f j))
      (λ i l u. t.behind j i l (⊎_elim (λ (w : i < k). a i w) (λ (w : k ≤ i). omega arith) (below_or_not i k)) h)
      (λ i l o e c b u.
      let less : i < j = ⊎_elim (λ (w : l < k). omega (arith, b (omega arith), a l w)) (λ (w : k ≤ l). omega arith) (below_or_not l k) in
      t.first.rising i j less h)

  pub runs-merged : Ordering Before f' (m + s)
  runs-merged = record {
    within =
        merged-cases Before f g p f' m s t d (λ x b. b < m + s)
        (λ k h. omega (arith, t.second.within k h)) (λ j k h n a b. omega (arith, t.first.within j h));
    onto = λ b h. ⊎_elim (λ (l : b < m). in-first b l) (λ (l : m ≤ b). in-second b l (omega arith)) (below_or_not b m);
    rising = λ x y h l.
        merged-cases Before f g p f' m s t d (λ y b. (x : ℕ) → x < y → Before (f' x) b)
        (λ k h x u. second-behind k h x (omega (arith, t.most k h)) u) (λ j k h n a b x u. first-behind j k h n a x (omega arith) u)
        y l x h;
  }
    where
      in-first : (b : ℕ) → b < m → (x : ℕ) × (x < m + s) × (f' x ≡ b)
      in-first b l =
          let j = t.first.onto b l in
          let w = reach p (j.0 + 1) s in (
            j.0 + w.k,
            omega (arith, w.few, j.1),
            d.firsts j.0 w.k j.1 w.few (λ i h. omega (arith, w.lower i h)) (λ h. omega (arith, w.next h)) ∙ j.2,
          )

      in-second : (b : ℕ) → m ≤ b → b < m + s → (x : ℕ) × (x < m + s) × (f' x ≡ b)
      in-second b l h =
          let k = t.second.onto (b - m) (omega arith) in
          (p k.0 + k.0, omega (arith, k.1, t.most k.0 k.1), d.seconds k.0 k.1 ∙ omega (arith, k.2))
