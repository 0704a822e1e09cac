-- Laws of inserting a number: the numbers on the move, and the ordering that results.
use Prim.Native.Nat.{ℕ, ◌+◌, ◌-◌, ◌≤◌, ◌<◌}
use mathlib.Core.Bool.{Bool, true, false}
use mathlib.Core.List.{List}
use mathlib.Core.Logic.{◌⊎◌, inl, inr, ⊎_elim}
use mathlib.Core.Path.{◌≡◌, refl, sym, ◌∙◌}
use native.Mathlib.Omega.{arith}
use native.Mathlib.Nat.{eq-or-lt_of_le}
use borrow.Author.Tests.{ltb-true, ltb-false}
use lib.Dec.{ltb}
use lib.ListN.{length, get_or, set, length-set}
use lib.Seq.{get_or-set_same, get_or-set_other}
use Rattle.ordering.specs.Order.{Ordering, Inserted}

-- of the words up to the last the ones from i on have moved up by one
pub record Moved (ws : List ℕ) (last i : ℕ) (ws' : List ℕ) : Type 0 where
  pub below : (k : ℕ) → k ≤ i → get_or ws' k 0 ≡ get_or ws k 0
  pub above : (k : ℕ) → i ≤ k → k < last → get_or ws' (k + 1) 0 ≡ get_or ws k 0
  pub rest : (k : ℕ) → last < k → get_or ws' k 0 ≡ get_or ws k 0
  pub long : length ws' ≡ length ws

pub moved_none : (ws : List ℕ) (last : ℕ) → Moved ws last last ws
moved_none ws last = record { below = λ k h. refl; above = λ k h l. absurd (omega arith); rest = λ k h. refl; long = refl }

module _ (ws ws' : List ℕ) (last i : ℕ) (fits : last < length ws) (few : i ≤ last) (m : Moved ws last i ws') where
  inside : i < length ws'
  inside = omega (arith, m.long)

  pub moved_more : 0 < i → Moved ws last (i - 1) (set ws' i (get_or ws' (i - 1) 0))
  moved_more h = record {
    below = λ k l. get_or-set_other ws' i k _ 0 (λ e. omega (arith, e)) ∙ m.below k (omega arith);
    above = λ k l u.
        ⊎_elim
        (λ e. first k (sym e))
        (λ g. get_or-set_other ws' i (k + 1) _ 0 (λ e. omega (arith, e)) ∙ m.above k (omega arith) u)
        (eq-or-lt_of_le l);
    rest = λ k l. get_or-set_other ws' i k _ 0 (λ e. omega (arith, e)) ∙ m.rest k l;
    long = simp length-set m.long;
  }
    where
      first : (k : ℕ) → k ≡ i - 1 → get_or (set ws' i (get_or ws' (i - 1) 0)) (k + 1) 0 ≡ get_or ws k 0
      first k e =
          let s : k + 1 ≡ i = omega arith in
          rw (s, get_or-set_same ws' i (get_or ws' (i - 1) 0) 0 inside, ← e) (m.below k (omega arith))

  pub moved_in : (base n place v : ℕ) → last ≡ base + n → i ≡ base + place → Inserted ws base n place v (set ws' i v)
  moved_in base n place v ends starts = record {
    below = λ k h. get_or-set_other ws' i k _ 0 (λ e. omega (arith, e)) ∙ m.below k (omega arith);
    here = rw (← starts) (get_or-set_same ws' i v 0 inside);
    above = λ k h l.
        let s : base + (k + 1) ≡ base + k + 1 = omega arith in
        rw s (get_or-set_other ws' i (base + k + 1) _ 0 (λ e. omega (arith, e)) ∙ m.above (base + k) (omega arith) (omega arith));
    rest = λ k h. get_or-set_other ws' i k _ 0 (λ e. omega (arith, e)) ∙ m.rest k (omega arith);
    long = simp length-set m.long;
  }

pub below_or_not : (a b : ℕ) → (a < b) ⊎ (b ≤ a)
below_or_not a b = go (ltb a b) refl
  where
    go : (t : Bool) → ltb a b ≡ t → (a < b) ⊎ (b ≤ a)
    go true e = inl (ltb-true a b e)
    go false e = inr (ltb-false a b e)

-- The numbers f with n put in this place are f'; what stands before the place is before n, and n before what stands behind.
module _ (Before : ℕ → ℕ → Type 0) (f f' : ℕ → ℕ) (n place : ℕ) (few : place ≤ n) (o : Ordering Before f n)
    (below : (k : ℕ) → k < place → f' k ≡ f k) (here : f' place ≡ n) (above : (k : ℕ) → place ≤ k → k < n → f' (k + 1) ≡ f k)
    (first : (k : ℕ) → k < place → Before (f k) n) (then : (k : ℕ) → place ≤ k → k < n → Before n (f k)) where
  -- the k-th of the numbers with n in its place is one of those before it, n, or one of those behind it
  cases : (P : ℕ → ℕ → Type 0) → ((k : ℕ) → k < place → P k (f k)) → P place n → ((k : ℕ) → place ≤ k → k < n → P (k + 1) (f k)) →
      (k : ℕ) → k < n + 1 → P k (f' k)
  cases P low mid high k h =
      ⊎_elim
      (λ (l : k < place). rw (below k l) (low k l))
      (λ (l : place ≤ k).
      ⊎_elim
      (λ (e : place ≡ k). rw (← e, here) mid)
      (λ (m : place < k). behind (k - 1) (omega arith) (omega arith) (omega arith))
      (eq-or-lt_of_le l))
      (below_or_not k place)
    where
      behind : (j : ℕ) → k ≡ j + 1 → place ≤ j → j < n → P k (f' k)
      behind j e l m = rw (e, above j l m) (high j l m)

  pub ordering-more : Ordering Before f' (n + 1)
  ordering-more = record {
    within = cases (λ k x. x < n + 1) (λ k h. omega (arith, o.within k (omega arith))) (omega arith) (λ k l h. omega (arith, o.within k h));
    onto = λ b h. ⊎_elim (λ (l : b < n). known b l) (λ (l : n ≤ b). (place, omega arith, here ∙ omega arith)) (below_or_not b n);
    rising = λ j k h l.
        cases (λ k x. (j : ℕ) → j < k → Before (f' j) x)
        (λ k h j l. rw (below j (omega arith)) (o.rising j k l (omega arith)))
        (λ j l. rw (below j l) (first j l))
        (λ k h u j l.
        cases (λ j x. j < k + 1 → Before x (f k))
        (λ j m v. o.rising j k (omega arith) u)
        (λ v. then k h u)
        (λ j m w v. o.rising j k (omega arith) u)
        j (omega arith) l)
        k l j h;
  }
    where
      known : (b : ℕ) → b < n → (k : ℕ) × (k < n + 1) × (f' k ≡ b)
      known b l =
          let w = o.onto b l in
          ⊎_elim
          (λ (m : w.0 < place). (w.0, omega (arith, w.1), below w.0 m ∙ w.2))
          (λ (m : place ≤ w.0). (w.0 + 1, omega (arith, w.1), above w.0 m w.1 ∙ w.2))
          (below_or_not w.0 place)
