-- Laws of an object's place in the ledger: a link counted leaves it, and a search in the table finds it.
use Prim.Native.Nat.{ℕ, zero, suc, ◌+◌, ◌≤◌, ◌<◌}
use mathlib.Core.Bool.{Bool, true, false}
use mathlib.Core.List.{List, [], ◌∷◌, ◌++◌}
use mathlib.Core.Logic.{⊎_elim}
use mathlib.Core.Path.{◌≡◌, refl, ap, sym, ◌∙◌}
use native.Mathlib.Omega.{arith}
use borrow.Author.Tests.{eq-eqb, ne_eqb}
use lib.Dec.{eqb}
use lib.ListN.{length, get_or}
use Rattle.std.specs.Prelude.{if◌then◌else◌}
use Rattle.format.specs.Result.{value}
use Rattle.format.specs.Ledger.{Linked, linked, in_ledger, add_link, count_link}
use Rattle.format.specs.Sharing.{place_of}
use Rattle.ledger.specs.Index.{Found}
use Rattle.ledger.specs.Table.{linked_of, Table, Discovered}
use Rattle.std.specs.Prelude.{Option, Some, None, unwrap_or}
use Rattle.ledger.proofs.LedgerLaws.{count-cases, count-in}
use Rattle.ledger.proofs.TableLaws.{length-linked_of}

-- the first object with the address, or one behind it
place_here : (a : ℕ) (o : Linked) (os : List Linked) → eqb a o.address ≡ true → place_of a (o ∷ os) ≡ 0
unfolding place_of
place_here a o os e = rw e

place-later : (a : ℕ) (o : Linked) (os : List Linked) → eqb a o.address ≡ false → place_of a (o ∷ os) ≡ suc (place_of a os)
unfolding place_of
place-later a o os e = rw e

-- one link more leaves the place, and a new object stands where the search ended
place-add : (a : ℕ) (os : List Linked) → place_of a (add_link a os) ≡ place_of a os
unfolding place_of add_link
place-add a [] = refl
place-add a (o ∷ os) = go (eqb a o.address) refl (place-add a os)
  where
    go : (t : Bool) → eqb a o.address ≡ t → place_of a (add_link a os) ≡ place_of a os →
        place_of a (if t then linked a (o.links + 1) ∷ os else o ∷ add_link a os) ≡ (if t then 0 else suc (place_of a os))
    go true e i = place_here a (linked a (o.links + 1)) os (eq-eqb a a refl)
    go false e i = place-later a o (add_link a os) e ∙ ap suc i

place-append : (a n : ℕ) (os : List Linked) → place_of a (os ++ (linked a n ∷ [])) ≡ place_of a os
unfolding place_of
place-append a n [] = place_here a (linked a n) [] (eq-eqb a a refl)
place-append a n (o ∷ os) = rw (place-append a n os)

-- an address that is there has a place
pub place_inside : (a : ℕ) (os : List Linked) → in_ledger a os ≡ true → place_of a os < length os
unfolding place_of in_ledger
place_inside a [] e = let z : ◌≡◌ {A = ℕ} 0 1 = cc in absurd (omega arith)
place_inside a (o ∷ os) e = go (eqb a o.address) e (place_inside a os)
  where
    go : (t : Bool) → (if t then true else in_ledger a os) ≡ true → (in_ledger a os ≡ true → place_of a os < length os) →
        (if t then 0 else suc (place_of a os)) < suc (length os)
    go true p i = omega arith
    go false p i = omega (arith, i p)

-- a link that was counted: the place is the one before it, and an object has it
module _ (a : ℕ) (os os' : List Linked) (e : count_link a os ≡ value os') where
  count-place : place_of a os' ≡ place_of a os
  count-place = ⊎_elim (λ k. rw k.1 (place-add a os)) (λ n. rw n.2 (place-append a 1 os)) (count-cases a os os' e)

  count-there : in_ledger a os' ≡ true
  count-there = count-in a os os' e a ∙ rw (eq-eqb a a refl) (go (in_ledger a os))
    where
      go : (t : Bool) → (if t then true else true) ≡ true
      go true = refl
      go false = refl

-- a search finds the place
linked-place : (a r n : ℕ) (xs ts : List ℕ) → n ≤ length xs → n ≤ length ts → r ≤ n → ((k : ℕ) → k < r → get_or xs k 0 ≡ a → ⊥) →
    (r < n → get_or xs r 0 ≡ a) → place_of a (linked_of n xs ts) ≡ r
unfolding linked_of place_of
linked-place a zero zero xs ts h k l b e = refl
linked-place a (suc r) zero xs ts h k l b e = absurd (omega arith)
linked-place a r (suc n) [] ts h k l b e = absurd (omega arith)
linked-place a r (suc n) (x ∷ xs) [] h k l b e = absurd (omega arith)
linked-place a zero (suc n) (x ∷ xs) (t ∷ ts) h k l b e = place_here a (linked x t) (linked_of n xs ts) (eq-eqb a x (sym (e (omega arith))))
linked-place a (suc r) (suc n) (x ∷ xs) (t ∷ ts) h k l b e =
    place-later a (linked x t) (linked_of n xs ts) (ne_eqb a x (λ q. b 0 (omega arith) (sym q)))
    ∙ ap suc (linked-place a r n xs ts (omega arith) (omega arith) (omega arith) (λ j m. b (suc j) (omega arith)) (λ m. e (omega arith)))

-- the place of the object that a search found, or of the next one
pub found-place : (xs ts : List ℕ) (n a : ℕ) (o : Option ℕ) → Table xs ts n → Found xs n a o → place_of a (linked_of n xs ts) ≡ unwrap_or o n
found-place xs ts n a (Some r) t f =
    linked-place a r n xs ts (omega (arith, t.fits, t.addresses_long)) (omega (arith, t.fits, t.counts_long)) (omega (arith, f.0)) f.2 (λ _. f.1)
found-place xs ts n a None t f =
    linked-place a n n xs ts (omega (arith, t.fits, t.addresses_long)) (omega (arith, t.fits, t.counts_long)) (omega arith) f (λ l. absurd (omega arith))

-- there the object stands after its discovery
module _ (xs ts : List ℕ) (n a : ℕ) (o : Option ℕ) (t : Table xs ts n) (f : Found xs n a o) where
  abbrev r : ℕ
  r = unwrap_or o n

  module _ (xs' ts' : List ℕ) (m : ℕ) (d : Discovered xs ts n a xs' ts' (Some m)) where
    pub discovered-place : place_of a (linked_of m xs' ts') ≡ r
    discovered-place = count-place a (linked_of n xs ts) (linked_of m xs' ts') (sym d.walk) ∙ found-place xs ts n a o t f

    pub discovered-inside : r < m
    discovered-inside =
        let h : place_of a (linked_of m xs' ts') < length (linked_of m xs' ts') =
        place_inside a (linked_of m xs' ts') (count-there a (linked_of n xs ts) (linked_of m xs' ts') (sym d.walk)) in
        rw (discovered-place, length-linked_of m xs' ts') at h
