-- Each position of a merged ordering has a number of the first run or one of the second.
use Prim.Native.Nat.{ℕ, zero, suc, ◌+◌, ◌-◌, ◌≤◌, ◌<◌}
use mathlib.Core.Logic.{⊎_elim}
use mathlib.Core.Path.{◌≡◌}
use native.Mathlib.Omega.{arith}
use native.Mathlib.Nat.{eq-or-lt_of_le}
use Rattle.ordering.specs.Merge.{TwoRuns, Merged}
use Rattle.ordering.proofs.OrderLaws.{below_or_not}

-- of the n first values the k first are below y, and the next one, if there is one, is not
pub record Reached (q : ℕ → ℕ) (y n : ℕ) : Type 0 where
  pub k : ℕ
  pub few : k ≤ n
  pub lower : (i : ℕ) → i < k → q i < y
  pub next : k < n → y ≤ q k

pub reach : (q : ℕ → ℕ) (y n : ℕ) → Reached q y n
reach q y zero = record { k = 0; few = omega arith; lower = λ i h. absurd (omega arith); next = λ h. absurd (omega arith) }
reach q y (suc n) =
    let w = reach q y n in
    ⊎_elim
    (λ (h : w.k < n). record { k = w.k; few = omega arith; lower = w.lower; next = λ l. w.next h })
    (λ (h : n ≤ w.k).
    let e : w.k ≡ n = omega (arith, w.few) in
    ⊎_elim
    (λ (l : q n < y). record {
      k = suc n;
      few = omega arith;
      lower = λ i u. ⊎_elim (λ (d : i < n). w.lower i (omega arith)) (λ (d : n ≤ i). let x : i ≡ n = omega arith in rw x l) (below_or_not i n);
      next = λ u. absurd (omega arith);
    })
    (λ (l : y ≤ q n). record { k = n; few = omega arith; lower = λ i u. w.lower i (omega arith); next = λ u. l })
    (below_or_not (q n) y))
    (below_or_not w.k n)

pub rises : {Before : ℕ → ℕ → Type 0} {f g p : ℕ → ℕ} {m s : ℕ} → TwoRuns Before f g p m s → (i k : ℕ) → i ≤ k → k < s → p i ≤ p k
rises t i k h l = ⊎_elim (λ (e : i ≡ k). rw e (omega arith)) (λ (u : i < k). t.rising i k u l) (eq-or-lt_of_le h)

module _ (Before : ℕ → ℕ → Type 0) (f g p f' : ℕ → ℕ) (m s : ℕ) (t : TwoRuns Before f g p m s) (d : Merged f g p m s f') where
  pub merged-cases : (P : ℕ → ℕ → Type 0) → ((k : ℕ) → k < s → P (p k + k) (m + g k)) →
      ((j k : ℕ) → j < m → k ≤ s → ((i : ℕ) → i < k → p i ≤ j) → (k < s → j < p k) → P (j + k) (f j)) →
      (x : ℕ) → x < m + s → P x (f' x)
  merged-cases P second first x h =
      ⊎_elim
      (λ (l : w.k < s). ⊎_elim (λ (e : x ≡ p w.k + w.k). here l e) (λ (u : x < p w.k + w.k). other (λ _. u)) (eq-or-lt_of_le (w.next l)))
      (λ (l : s ≤ w.k). other (λ u. absurd (omega arith)))
      (below_or_not w.k s)
    where
      w : Reached (λ i. p i + i) x s
      w = reach (λ i. p i + i) x s

      here : w.k < s → x ≡ p w.k + w.k → P x (f' x)
      here l e = rw (e, d.seconds w.k l) (second w.k l)

      before : (i : ℕ) → i < w.k → p i + w.k ≤ x
      before i l = omega (arith, rises t i (w.k - 1) (omega arith) (omega (arith, w.few)), w.lower (w.k - 1) (omega arith))

      passed : w.k ≤ x
      passed = ⊎_elim (λ (z : 0 < w.k). omega (arith, before 0 z)) (λ (z : w.k ≤ 0). omega arith) (below_or_not 0 w.k)

      other : (w.k < s → x < p w.k + w.k) → P x (f' x)
      other u = from (x - w.k) (omega (arith, passed)) small (λ i l. omega (arith, before i l)) (λ l. omega (arith, u l, passed))
        where
          small : x - w.k < m
          small = ⊎_elim (λ (l : w.k < s). omega (arith, passed, u l, t.most w.k l)) (λ (l : s ≤ w.k). omega (arith, passed)) (below_or_not w.k s)

          from : (j : ℕ) → x ≡ j + w.k → j < m → ((i : ℕ) → i < w.k → p i ≤ j) → (w.k < s → j < p w.k) → P x (f' x)
          from j e l a b = rw (e, d.firsts j w.k l w.few a b) (first j w.k l w.few a b)
