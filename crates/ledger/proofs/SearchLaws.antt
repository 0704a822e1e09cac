-- Laws of the search for an address: the halving, and what the place and a guess decide.
use Rattle.std.specs.Prelude.{Some, None}
use Prim.Native.Nat.{ℕ, ◌+◌, ◌-◌, ◌≤◌, ◌<◌}
use mathlib.Core.List.{List}
use mathlib.Core.Logic.{⊎_elim}
use mathlib.Core.Path.{◌≡◌, sym, ap, ◌∙◌}
use native.Mathlib.Omega.{arith}
use native.Mathlib.Nat.{eq-or-lt_of_le}
use lib.ListN.{length, get_or}
use Rattle.format.specs.Limits.{objects_most}
use Rattle.ordering.specs.Order.{words_from}
use Rattle.ordering.proofs.OrderLaws.{below_or_not}
use Rattle.ledger.specs.Index.{index_words, table_words, guess_at, address_in, Sorted, Indexed, Placed, Halving, Found, Guessed, Sought}
use Rattle.ordering.specs.declared.halving.Place.{Place}

-- a guess stands behind the order, and in a list that has guesses
pub guess-from : (a : ℕ) → index_words ≤ guess_at a
unfolding guess_at
guess-from a = omega arith

pub guess-in : (a : ℕ) → guess_at a < table_words
unfolding guess_at objects_most
guess-in a = omega arith

-- The objects before a place in the order have lower addresses, if the last of them has; those from there on don't, if the first of them hasn't.
module _ (xs : List ℕ) (from n a : ℕ) (x : Sorted xs from n) where
  pub placed_by : (p : ℕ) → p ≤ n → ((k : ℕ) → k + 1 ≡ p → address_in xs from k < a) → (p < n → a ≤ address_in xs from p) → Placed xs from n a p
  placed_by p m b u = record {
    most = m;
    before = λ k h. ⊎_elim (λ (q : k + 1 ≡ p). b k q) (λ (q : k + 1 < p). earlier k q) (eq-or-lt_of_le (omega arith));
    after = λ k h l. ⊎_elim (λ (q : p ≡ k). rw (← q) (u (omega arith))) (λ (q : p < k). later k q l) (eq-or-lt_of_le h);
  }
    where
      earlier : (k : ℕ) → k + 1 < p → address_in xs from k < a
      earlier k q = omega (arith, x.ordering.rising k (p - 1) (omega arith) (omega arith), b (p - 1) (omega arith))

      later : (k : ℕ) → p < k → k < n → a ≤ address_in xs from k
      later k q l = omega (arith, x.ordering.rising p k q l, u (omega arith))

-- The place in the order decides.
module _ (xs : List ℕ) (n a : ℕ) (x : Indexed xs n) where
  -- of two objects with one address none stands before the other
  distinct : (o p : ℕ) → o < n → p < n → get_or xs o 0 ≡ get_or xs p 0 → o ≡ p
  distinct o p h l e = same (x.ordering.onto o h) (x.ordering.onto p l)
    where
      same : (i : ℕ) × (i < n) × (words_from xs objects_most i ≡ o) → (j : ℕ) × (j < n) × (words_from xs objects_most j ≡ p) → o ≡ p
      same i j =
          ⊎_elim
          (λ (q : i.0 < j.0). absurd (apart i j q e))
          (λ (q : j.0 ≤ i.0).
          ⊎_elim
          (λ (r : j.0 ≡ i.0). sym i.2 ∙ ap (words_from xs objects_most) (sym r) ∙ j.2)
          (λ (r : j.0 < i.0). absurd (apart j i r (sym e)))
          (eq-or-lt_of_le q))
          (below_or_not i.0 j.0)
        where
          apart : {o p : ℕ} (i : (k : ℕ) × (k < n) × (words_from xs objects_most k ≡ o)) (j : (k : ℕ) × (k < n) × (words_from xs objects_most k ≡ p)) →
              i.0 < j.0 → get_or xs o 0 ≡ get_or xs p 0 → ⊥
          apart i j q e =
              let r = x.ordering.rising i.0 j.0 q j.1 in
              omega (arith, rw (i.2, j.2) at r)

  -- so an object with the address is the first that has it
  pub one_found : (p : ℕ) → p < n → get_or xs p 0 ≡ a → Found xs n a (Some p)
  one_found p h e = (h, e, λ k l q. absurd (omega (arith, distinct k p (omega arith) h (q ∙ sym e))))

  -- none has the address, where the first that isn't lower is a higher one, or where there is no such
  pub none_found : (order : ℕ) → Placed xs objects_most n a order → (order < n → address_in xs objects_most order ≡ a → ⊥) → Found xs n a None
  none_found order p h k l e = other k (x.ordering.onto k l) e
    where
      other : (k : ℕ) → (j : ℕ) × (j < n) × (words_from xs objects_most j ≡ k) → get_or xs k 0 ≡ a → ⊥
      other k j e =
          let f : address_in xs objects_most j.0 ≡ a = ap (λ (o : ℕ). get_or xs o 0) j.2 ∙ e in
          ⊎_elim
          (λ (q : j.0 < order). omega (arith, p.before j.0 q))
          (λ (q : order ≤ j.0).
          ⊎_elim
          (λ (r : order ≡ j.0). h (omega (arith, j.1)) (ap (address_in xs objects_most) r ∙ f))
          (λ (r : order < j.0). omega (arith, p.after order (omega arith) (omega (arith, j.1)), x.ordering.rising order j.0 r j.1))
          (eq-or-lt_of_le q))
          (below_or_not j.0 order)

  -- what a search ends with: the guess that has the address
  pub sought-guess : (p : ℕ) → Guessed xs n a (Some p) → Sought xs n a 2 (record { object = Some p; order = 0; tests = 1 })
  sought-guess p g = record { found = one_found p g.0 g.1; placed = λ e. absurd (cc); tests = λ m l. omega arith }

  module _ (from : ℕ) (is : from ≡ objects_most) where
    pub from_sorted : Sorted xs from n
    from_sorted = rw is (record { inside = omega (arith, x.fits, x.long); ordering = x.ordering })

    pub order-object : (order : ℕ) → order < n → words_from xs from order < length xs
    order-object order h = rw is (omega (arith, x.ordering.within order h, x.fits, x.long))

    module _ (r : Place) (h : Halving xs from n a r) where
      placed : Placed xs objects_most n a r.place
      placed = rw is at h.placed

      -- the object in the place has the address
      pub sought-there : r.place < n → address_in xs from r.place ≡ a →
          Sought xs n a 1 (record { object = Some (words_from xs from r.place); order = r.place; tests = r.tests + 1 })
      sought-there l e = record {
        found = one_found _ (rw is (x.ordering.within r.place l)) e;
        placed = λ _. placed;
        tests = λ m k. omega (arith, h.tests m k);
      }

      -- it has another, or there is none
      pub sought-none : (r.place < n → address_in xs from r.place ≡ a → ⊥) →
          Sought xs n a 1 (record { object = None; order = r.place; tests = r.tests + 1 })
      sought-none l = record {
        found = none_found r.place placed (rw is at l);
        placed = λ _. placed;
        tests = λ m k. omega (arith, h.tests m k);
      }
