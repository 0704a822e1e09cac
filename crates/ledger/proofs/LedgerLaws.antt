-- Laws of the ledger's definition: what one link more changes, and what it leaves.
use Prim.Native.Nat.{ℕ, ◌+◌, ◌≤◌, ◌<◌}
use mathlib.Core.Bool.{Bool, true, false}
use mathlib.Core.List.{List, [], ◌∷◌, ◌++◌, append-nil}
use mathlib.Core.Logic.{◌⊎◌, inl, inr, ⊎_elim}
use mathlib.Core.Path.{◌≡◌, refl, ap, sym, ◌∙◌}
use native.Mathlib.Omega.{arith}
use borrow.Author.Tests.{eq-eqb, ne_eqb, eqb-true, eqb-false, lt-ltb, le-ltb, ltb-true}
use lib.Dec.{eqb, ltb}
use lib.ListN.{length, length-append}
use Rattle.format.specs.Limits.{objects_most}
use Rattle.std.specs.Prelude.{if◌then◌else◌}
use Rattle.format.specs.Result.{value, answer}
use Rattle.format.specs.Entry.{Entry, is_hard}
use Rattle.format.specs.Ledger.{Linked, linked, in_ledger, add_link, count_link, discover}
use Rattle.ledger.specs.Links.{addresses_of, link_sum, links_to, one_for, Distinct}

-- What a link to an address comes to, by what the ledger holds.
module _ (a : ℕ) (os : List Linked) where
  pub count-known : in_ledger a os ≡ true → count_link a os ≡ value (add_link a os)
  unfolding count_link
  count-known e = rw e

  pub count-new : in_ledger a os ≡ false → length os < objects_most → count_link a os ≡ value (os ++ (linked a 1 ∷ []))
  unfolding count_link
  count-new e h = rw (e, lt-ltb (length os) objects_most h)

  pub count-full : in_ledger a os ≡ false → objects_most ≤ length os → count_link a os ≡ answer 12
  unfolding count_link
  count-full e h = rw (e, le-ltb (length os) objects_most h)

  -- a link that is counted is one more for an object of the ledger, or makes a new one
  pub count-cases : (os' : List Linked) → count_link a os ≡ value os' →
      ((in_ledger a os ≡ true) × (os' ≡ add_link a os)) ⊎ ((in_ledger a os ≡ false) × (length os < objects_most) × (os' ≡ os ++ (linked a 1 ∷ [])))
  unfolding count_link
  count-cases os' e = go (in_ledger a os) (ltb (length os) objects_most) refl refl e
    where
      go : (t u : Bool) → in_ledger a os ≡ t → ltb (length os) objects_most ≡ u →
          (if t then value (add_link a os) else if u then value (os ++ (linked a 1 ∷ [])) else answer 12) ≡ value os' →
          ((in_ledger a os ≡ true) × (os' ≡ add_link a os)) ⊎ ((in_ledger a os ≡ false) × (length os < objects_most) × (os' ≡ os ++ (linked a 1 ∷ [])))
      go true u p q r = inl (p, cc)
      go false true p q r = inr (p, ltb-true _ _ q, cc)
      go false false p q r = let z : ◌≡◌ {A = ℕ} 0 1 = cc in absurd (omega arith)

-- at an entry: a hard link is counted, and any other changes nothing
pub discover-hard : (e : Entry) (os : List Linked) → is_hard e ≡ true → discover e os ≡ count_link e.header os
unfolding discover
discover-hard e os h = rw h

pub discover-other : (e : Entry) (os : List Linked) → is_hard e ≡ false → discover e os ≡ value os
unfolding discover
discover-other e os h = rw h

-- The first object with the address, or none: the step of each induction below.
pub add-here : (a : ℕ) (o : Linked) (os : List Linked) → eqb a o.address ≡ true → add_link a (o ∷ os) ≡ linked a (o.links + 1) ∷ os
unfolding add_link
add-here a o os e = rw e

pub add-later : (a : ℕ) (o : Linked) (os : List Linked) → eqb a o.address ≡ false → add_link a (o ∷ os) ≡ o ∷ add_link a os
unfolding add_link
add-later a o os e = rw e

pub in-here : (a : ℕ) (o : Linked) (os : List Linked) → eqb a o.address ≡ true → in_ledger a (o ∷ os) ≡ true
unfolding in_ledger
in-here a o os e = rw e

pub in-later : (a : ℕ) (o : Linked) (os : List Linked) → eqb a o.address ≡ false → in_ledger a (o ∷ os) ≡ in_ledger a os
unfolding in_ledger
in-later a o os e = rw e

-- one link more leaves the addresses
pub addresses-add : (a : ℕ) (os : List Linked) → addresses_of (add_link a os) ≡ addresses_of os
unfolding addresses_of add_link
addresses-add a [] = refl
addresses-add a (o ∷ os) = go (eqb a o.address) refl (addresses-add a os)
  where
    go : (t : Bool) → eqb a o.address ≡ t → addresses_of (add_link a os) ≡ addresses_of os →
        addresses_of (if t then linked a (o.links + 1) ∷ os else o ∷ add_link a os) ≡ o.address ∷ addresses_of os
    go true e i = ap (λ (k : ℕ). k ∷ addresses_of os) (eqb-true a o.address e)
    go false e i = ap (λ (l : List ℕ). o.address ∷ l) i

pub addresses-append : (os ps : List Linked) → addresses_of (os ++ ps) ≡ addresses_of os ++ addresses_of ps
unfolding addresses_of
addresses-append [] ps = refl
addresses-append (o ∷ os) ps = ap (λ (l : List ℕ). o.address ∷ l) (addresses-append os ps)

pub length-addresses : (os : List Linked) → length (addresses_of os) ≡ length os
unfolding addresses_of
length-addresses [] = refl
length-addresses (o ∷ os) = omega (arith, length-addresses os)

pub length-add : (a : ℕ) (os : List Linked) → length (add_link a os) ≡ length os
length-add a os = sym (length-addresses (add_link a os)) ∙ ap length (addresses-add a os) ∙ length-addresses os

pub sum-append : (os ps : List Linked) → link_sum (os ++ ps) ≡ link_sum os + link_sum ps
unfolding link_sum
sum-append [] ps = omega arith
sum-append (o ∷ os) ps = omega (arith, sum-append os ps)

pub sum-add : (a : ℕ) (os : List Linked) → in_ledger a os ≡ true → link_sum (add_link a os) ≡ link_sum os + 1
unfolding link_sum add_link in_ledger
sum-add a [] h = let z : ◌≡◌ {A = ℕ} 0 1 = cc in absurd (omega arith)
sum-add a (o ∷ os) h = go (eqb a o.address) h (sum-add a os)
  where
    go : (t : Bool) → (if t then true else in_ledger a os) ≡ true → (in_ledger a os ≡ true → link_sum (add_link a os) ≡ link_sum os + 1) →
        link_sum (if t then linked a (o.links + 1) ∷ os else o ∷ add_link a os) ≡ o.links + link_sum os + 1
    go true p i = omega arith
    go false p i = omega (arith, i p)

-- whether an address stands in a ledger is told by its addresses
in-same : (x : ℕ) (os ps : List Linked) → addresses_of os ≡ addresses_of ps → in_ledger x os ≡ in_ledger x ps
unfolding in_ledger addresses_of
in-same x [] [] e = refl
in-same x [] (p ∷ ps) e = let z : ◌≡◌ {A = ℕ} 0 1 = cc in absurd (omega arith)
in-same x (o ∷ os) [] e = let z : ◌≡◌ {A = ℕ} 0 1 = cc in absurd (omega arith)
in-same x (o ∷ os) (p ∷ ps) e =
    let h : o.address ≡ p.address = cc in
    let t : addresses_of os ≡ addresses_of ps = cc in
    rw (h, in-same x os ps t)

distinct-same : (os ps : List Linked) → addresses_of os ≡ addresses_of ps → Distinct os → Distinct ps
unfolding addresses_of
distinct-same [] [] e d = tt
distinct-same [] (p ∷ ps) e d = let z : ◌≡◌ {A = ℕ} 0 1 = cc in absurd (omega arith)
distinct-same (o ∷ os) [] e d = tt
distinct-same (o ∷ os) (p ∷ ps) e d =
    let h : o.address ≡ p.address = cc in
    let t : addresses_of os ≡ addresses_of ps = cc in
    (ap (λ (k : ℕ). in_ledger k ps) (sym h) ∙ sym (in-same o.address os ps t) ∙ d.0, distinct-same os ps t d.1)

pub in-add : (x a : ℕ) (os : List Linked) → in_ledger x (add_link a os) ≡ in_ledger x os
in-add x a os = in-same x (add_link a os) os (addresses-add a os)

pub in-append : (x a n : ℕ) (os : List Linked) → in_ledger x (os ++ (linked a n ∷ [])) ≡ (if in_ledger x os then true else eqb x a)
unfolding in_ledger
in-append x a n [] = go (eqb x a)
  where
    go : (t : Bool) → (if t then true else false) ≡ t
    go true = refl
    go false = refl
in-append x a n (o ∷ os) = go (eqb x o.address) (in-append x a n os)
  where
    go : (t : Bool) → in_ledger x (os ++ (linked a n ∷ [])) ≡ (if in_ledger x os then true else eqb x a) →
        (if t then true else in_ledger x (os ++ (linked a n ∷ []))) ≡ (if (if t then true else in_ledger x os) then true else eqb x a)
    go true e = refl
    go false e = e

-- an address that isn't there is neither the first nor among the rest
out_both : (x : ℕ) (o : Linked) (os : List Linked) → in_ledger x (o ∷ os) ≡ false → (eqb x o.address ≡ false) × (in_ledger x os ≡ false)
unfolding in_ledger
out_both x o os h = go (eqb x o.address) refl h
  where
    go : (t : Bool) → eqb x o.address ≡ t → (if t then true else in_ledger x os) ≡ false → (eqb x o.address ≡ false) × (in_ledger x os ≡ false)
    go true e p = let z : ◌≡◌ {A = ℕ} 0 1 = cc in absurd (omega arith)
    go false e p = (e, p)

out-append : (x a n : ℕ) (os : List Linked) → in_ledger x os ≡ false → eqb x a ≡ false → in_ledger x (os ++ (linked a n ∷ [])) ≡ false
out-append x a n os h e = rw (in-append x a n os, h, e)

eqb-flip : (x y : ℕ) → eqb x y ≡ false → eqb y x ≡ false
eqb-flip x y e = ne_eqb y x (λ q. eqb-false x y e (sym q))

distinct_append : (a n : ℕ) (os : List Linked) → in_ledger a os ≡ false → Distinct os → Distinct (os ++ (linked a n ∷ []))
unfolding in_ledger
distinct_append a n [] h d = (refl, tt)
distinct_append a n (o ∷ os) h d =
    let b = out_both a o os h in
    (out-append o.address a n os d.0 (eqb-flip a o.address b.0), distinct_append a n os b.1 d.1)

pub links-add : (x a : ℕ) (os : List Linked) → in_ledger a os ≡ true → links_to x (add_link a os) ≡ links_to x os + one_for x a
unfolding links_to add_link in_ledger
links-add x a [] h = let z : ◌≡◌ {A = ℕ} 0 1 = cc in absurd (omega arith)
links-add x a (o ∷ os) h = go (eqb a o.address) refl (eqb x o.address) refl h (links-add x a os)
  where
    go : (t : Bool) → eqb a o.address ≡ t → (u : Bool) → eqb x o.address ≡ u → (if t then true else in_ledger a os) ≡ true →
        (in_ledger a os ≡ true → links_to x (add_link a os) ≡ links_to x os + one_for x a) →
        links_to x (if t then linked a (o.links + 1) ∷ os else o ∷ add_link a os) ≡ (if u then o.links else links_to x os) + one_for x a
    go true e true f p i = let q : eqb x a ≡ true = eq-eqb x a (eqb-true x _ f ∙ sym (eqb-true a _ e)) in rw q
    go true e false f p i = let q : eqb x a ≡ false = ne_eqb x a (λ r. eqb-false x _ f (r ∙ eqb-true a _ e)) in rw q (omega arith)
    go false e true f p i = let q : eqb x a ≡ false = ne_eqb x a (λ r. eqb-false a _ e (sym r ∙ eqb-true x _ f)) in rw (f, q) (omega arith)
    go false e false f p i = rw f (i p)

pub links-append : (x a : ℕ) (os : List Linked) → in_ledger a os ≡ false → links_to x (os ++ (linked a 1 ∷ [])) ≡ links_to x os + one_for x a
unfolding links_to
links-append x a [] h = omega arith
links-append x a (o ∷ os) h = go (eqb x o.address) refl (links-append x a os (out_both a o os h).1)
  where
    go : (u : Bool) → eqb x o.address ≡ u → links_to x (os ++ (linked a 1 ∷ [])) ≡ links_to x os + one_for x a →
        (if u then o.links else links_to x (os ++ (linked a 1 ∷ []))) ≡ (if u then o.links else links_to x os) + one_for x a
    go true f i = let q : eqb x a ≡ false = ne_eqb x a (λ r. eqb-false a _ (out_both a o os h).0 (sym r ∙ eqb-true x _ f)) in rw q (omega arith)
    go false f i = i

-- What a link that is counted changes.
module _ (a : ℕ) (os os' : List Linked) (e : count_link a os ≡ value os') where
  -- the links are one more
  pub count-sum : link_sum os' ≡ link_sum os + 1
  unfolding link_sum
  count-sum = ⊎_elim (λ k. rw k.1 (sum-add a os k.0)) (λ n. rw n.2 (sum-append os (linked a 1 ∷ []))) (count-cases a os os' e)

  -- those to its own address are one more, those to any other as many
  pub count-links : (x : ℕ) → links_to x os' ≡ links_to x os + one_for x a
  count-links x = ⊎_elim (λ k. rw k.1 (links-add x a os k.0)) (λ n. rw n.2 (links-append x a os n.0)) (count-cases a os os' e)

  -- the addresses stay, in order, and a new one comes last
  pub count-addresses : addresses_of os' ≡ addresses_of os ++ (if in_ledger a os then [] else a ∷ [])
  unfolding addresses_of
  count-addresses =
      ⊎_elim
      (λ k. rw (k.1, k.0, append-nil) (addresses-add a os))
      (λ n. rw (n.2, n.0) (addresses-append os (linked a 1 ∷ [])))
      (count-cases a os os' e)

  pub count-in : (x : ℕ) → in_ledger x os' ≡ (if in_ledger x os then true else eqb x a)
  count-in x = ⊎_elim (λ k. rw k.1 (in-add x a os ∙ own k.0)) (λ n. rw n.2 (in-append x a 1 os)) (count-cases a os os' e)
    where
      own : in_ledger a os ≡ true → in_ledger x os ≡ (if in_ledger x os then true else eqb x a)
      own p = go (in_ledger x os) refl (eqb x a) refl
        where
          go : (t : Bool) → in_ledger x os ≡ t → (u : Bool) → eqb x a ≡ u → t ≡ (if t then true else u)
          go true q u r = refl
          go false q true r = sym q ∙ ap (λ (k : ℕ). in_ledger k os) (eqb-true x a r) ∙ p
          go false q false r = refl

  pub count-distinct : Distinct os → Distinct os'
  count-distinct d =
      ⊎_elim
      (λ k. rw k.1 (distinct-same os (add_link a os) (sym (addresses-add a os)) d))
      (λ n. rw n.2 (distinct_append a 1 os n.0 d))
      (count-cases a os os' e)

  pub count_most : length os ≤ objects_most → length os' ≤ objects_most
  count_most h = ⊎_elim (λ k. rw (k.1, length-add a os) h) (λ n. rw (n.2, length-append) (omega (arith, n.1))) (count-cases a os os' e)

-- the ledger that an audit begins with: one object with one link
pub sum_first : (a : ℕ) → link_sum (linked a 1 ∷ []) ≡ 1
unfolding link_sum
sum_first a = refl

pub links-first : (x a : ℕ) → links_to x (linked a 1 ∷ []) ≡ one_for x a
unfolding links_to
links-first x a = refl

pub distinct-first : (a : ℕ) → Distinct (linked a 1 ∷ [])
unfolding in_ledger
distinct-first a = (refl, tt)
