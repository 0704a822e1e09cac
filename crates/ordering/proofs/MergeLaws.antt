-- Merging from the back: left numbers of the first run and k of the second are still to be placed, and all the others stand where they belong.
use Prim.Native.Nat.{ℕ, ◌+◌, ◌-◌, ◌≤◌, ◌<◌}
use mathlib.Core.List.{List}
use mathlib.Core.Logic.{◌⊎◌, inr, ⊎_elim}
use mathlib.Core.Path.{◌≡◌, refl, sym, ◌∙◌}
use native.Mathlib.Omega.{arith}
use native.Mathlib.Nat.{eq-or-lt_of_le}
use lib.ListN.{length, get_or, set, length-set}
use lib.Seq.{get_or-set_same, get_or-set_other}
use Rattle.ordering.specs.Order.{words_from}
use Rattle.ordering.specs.Merge.{Held, MergedIn, Raised}
use Rattle.ordering.specs.declared.Runs.{Runs}
use Rattle.ordering.proofs.OrderLaws.{below_or_not}

pub record Merging (ws : List ℕ) (r : Runs) (left k : ℕ) (ws' : List ℕ) : Type 0 where
  pub few : k ≤ r.added
  pub most : left ≤ r.count
  pub lower : (i : ℕ) → i < k → words_from ws r.places i ≤ left
  pub higher : (i : ℕ) → k ≤ i → i < r.added → left ≤ words_from ws r.places i
  pub below : (j : ℕ) → j < left → words_from ws' r.first j ≡ words_from ws r.first j
  pub seconds : (i : ℕ) → k ≤ i → i < r.added →
      words_from ws' r.first (words_from ws r.places i + i) ≡ r.count + words_from ws r.second i
  pub firsts : (j i : ℕ) → left ≤ j → j < r.count → i ≤ r.added → ((h : ℕ) → h < i → words_from ws r.places h ≤ j) →
      (i < r.added → j < words_from ws r.places i) → words_from ws' r.first (j + i) ≡ words_from ws r.first j
  pub rest : (n : ℕ) → (n < r.first) ⊎ (r.first + (r.count + r.added) ≤ n) → get_or ws' n 0 ≡ get_or ws n 0
  pub long : length ws' ≡ length ws

module _ {ws : List ℕ} {r : Runs} (held : Held ws r) where
  pub merging-none : Merging ws r r.count r.added ws
  merging-none = record {
    few = omega arith;
    most = omega arith;
    lower = λ i h. held.most i h;
    higher = λ i l h. absurd (omega arith);
    below = λ j h. refl;
    seconds = λ i l h. absurd (omega arith);
    firsts = λ j i l h n before behind. absurd (omega arith);
    rest = λ n h. refl;
    long = refl;
  }

  -- with nothing of the second run left, the numbers left of the first stand where they stood
  pub merging-all : {ws' : List ℕ} {left : ℕ} → Merging ws r left 0 ws' → MergedIn ws r ws'
  merging-all {ws'} {left} m = record {
    merged = record {
      seconds = λ k h. m.seconds k (omega arith) h;
      firsts = λ j k h n before behind.
          ⊎_elim
          (λ (l : j < left). ⊎_elim (λ (e : 0 ≡ k). early j k l (sym e)) (λ (p : 0 < k). absurd (late j k l n p before)) (eq-or-lt_of_le (omega arith)))
          (λ (l : left ≤ j). m.firsts j k l h n before behind)
          (below_or_not j left);
    };
    rest = m.rest;
    long = m.long;
  }
    where
      early : (j k : ℕ) → j < left → k ≡ 0 → words_from ws' r.first (j + k) ≡ words_from ws r.first j
      early j k l e = let s : j + k ≡ j = omega arith in rw s (m.below j l)

      late : (j k : ℕ) → j < left → k ≤ r.added → 0 < k → ((h : ℕ) → h < k → words_from ws r.places h ≤ j) → ⊥
      late j k l n p before = omega (arith, before 0 p, m.higher 0 (omega arith) (omega arith))

  module _ {ws' : List ℕ} {left k : ℕ} (m : Merging ws r left k ws') (some : 0 < k) where
    -- the place of the last number to be placed is read as it was given
    pub place_read : get_or ws' (r.places + (k - 1)) 0 ≡ words_from ws r.places (k - 1)
    place_read = m.rest _ (inr (omega (arith, held.apart, held.between)))

    pub place-low : get_or ws' (r.places + (k - 1)) 0 ≤ left
    place-low = rw place_read (m.lower (k - 1) (omega arith))

    -- the places rise up to it and from it on
    places-rise : (i : ℕ) → i ≤ k - 1 → words_from ws r.places i ≤ words_from ws r.places (k - 1)
    places-rise i h =
        ⊎_elim (λ (e : i ≡ k - 1). rw e (omega arith)) (λ (l : i < k - 1). held.rising i (k - 1) l (omega (arith, m.few))) (eq-or-lt_of_le h)

    places-from : (i : ℕ) → k - 1 ≤ i → i < r.added → words_from ws r.places (k - 1) ≤ words_from ws r.places i
    places-from i h n =
        ⊎_elim (λ (e : k - 1 ≡ i). rw (← e) (omega arith)) (λ (l : k - 1 < i). held.rising (k - 1) i l n) (eq-or-lt_of_le h)

    module _ {place : ℕ} {ws'' : List ℕ} (given : place ≡ words_from ws r.places (k - 1))
        (raised : Raised ws' (r.first + place) (r.first + left) k ws'') where
      low : place ≤ left
      low = rw given (m.lower (k - 1) (omega arith))

      pub second-read : get_or ws'' (r.second + (k - 1)) 0 ≡ words_from ws r.second (k - 1)
      second-read =
          raised.rest (r.second + (k - 1)) (omega (arith, held.apart, m.few, m.most))
          ∙ m.rest (r.second + (k - 1)) (inr (omega (arith, held.apart)))

      pub second-small : get_or ws'' (r.second + (k - 1)) 0 < r.added
      second-small = rw second-read (held.within (k - 1) (omega (arith, m.few)))

      abbrev to : ℕ
      to = r.first + (place + (k - 1))

      abbrev after : List ℕ
      after = set ws'' to (r.count + get_or ws'' (r.second + (k - 1)) 0)

      -- words that are neither raised nor written
      kept-below : (n : ℕ) → n < r.first + place → get_or after n 0 ≡ get_or ws' n 0
      kept-below n h = get_or-set_other ws'' to n _ 0 (λ e. omega (arith, e)) ∙ raised.below n h

      kept_above : (n : ℕ) → r.first + left + k ≤ n → get_or after n 0 ≡ get_or ws' n 0
      kept_above n h = get_or-set_other ws'' to n _ 0 (λ e. omega (arith, e, low)) ∙ raised.rest n h

      written : get_or after to 0 ≡ r.count + words_from ws r.second (k - 1)
      written =
          let inside : to < length ws'' = omega (arith, low, m.few, m.most, m.long, raised.long, held.apart, held.between, held.inside) in
          rw (← second-read) (get_or-set_same ws'' to (r.count + get_or ws'' (r.second + (k - 1)) 0) 0 inside)

      -- a number of the first run between the place and those that were left has k of the second before it
      between : (j i : ℕ) → place ≤ j → j < left → i ≤ r.added → ((h : ℕ) → h < i → words_from ws r.places h ≤ j) →
          (i < r.added → j < words_from ws r.places i) → i ≡ k
      between j i l u n before behind =
          ⊎_elim
          (λ (h : i < k). absurd (fewer h))
          (λ (h : k ≤ i). ⊎_elim sym (λ (g : k < i). absurd (omega (arith, before k g, m.higher k (omega arith) (omega arith)))) (eq-or-lt_of_le h))
          (below_or_not i k)
        where
          fewer : i < k → ⊥
          fewer h = omega (arith, behind (omega (arith, m.few)), places-rise i (omega arith), given)

      pub merging-more : Merging ws r place (k - 1) after
      merging-more = record {
        few = omega (arith, m.few);
        most = omega (arith, low, m.most);
        lower = λ i h. omega (arith, held.rising i (k - 1) h (omega (arith, m.few)), given);
        higher = λ i l h. omega (arith, places-from i l h, given);
        below = λ j h. kept-below (r.first + j) (omega arith) ∙ m.below j (omega (arith, low));
        seconds = λ i l h.
            ⊎_elim (λ (e : k - 1 ≡ i). last i (sym e)) (λ (g : k - 1 < i). earlier i (omega arith) h) (eq-or-lt_of_le l);
        firsts = λ j i l h n before behind.
            ⊎_elim
            (λ (u : j < left). moved j i l u (between j i l u n before behind))
            (λ (u : left ≤ j). stays j i u h n before behind)
            (below_or_not j left);
        rest = λ n h.
            ⊎_elim
            (λ (l : n < r.first). kept-below n (omega arith))
            (λ (l : r.first + (r.count + r.added) ≤ n). kept_above n (omega (arith, m.few, m.most)))
            h
            ∙ m.rest n h;
        long = simp length-set (raised.long ∙ m.long);
      }
        where
          last : (i : ℕ) → i ≡ k - 1 → words_from after r.first (words_from ws r.places i + i) ≡ r.count + words_from ws r.second i
          last i e = rw (e, ← given) written

          earlier : (i : ℕ) → k ≤ i → i < r.added → words_from after r.first (words_from ws r.places i + i) ≡ r.count + words_from ws r.second i
          earlier i l h = kept_above _ (omega (arith, m.higher i l h)) ∙ m.seconds i l h

          moved : (j i : ℕ) → place ≤ j → j < left → i ≡ k → words_from after r.first (j + i) ≡ words_from ws r.first j
          moved j i l u e =
              let s : r.first + (j + i) ≡ r.first + j + k = omega arith in
              rw s
              (get_or-set_other ws'' to (r.first + j + k) _ 0 (λ x. omega (arith, x))
              ∙ raised.moved (r.first + j) (omega arith) (omega arith)
              ∙ m.below j u)

          stays : (j i : ℕ) → left ≤ j → j < r.count → i ≤ r.added → ((h : ℕ) → h < i → words_from ws r.places h ≤ j) →
              (i < r.added → j < words_from ws r.places i) → words_from after r.first (j + i) ≡ words_from ws r.first j
          stays j i u h n before behind =
              ⊎_elim
              (λ (l : i < k). absurd (omega (arith, behind (omega (arith, m.few)), m.lower i l)))
              (λ (l : k ≤ i). kept_above _ (omega arith) ∙ m.firsts j i u h n before behind)
              (below_or_not i k)
