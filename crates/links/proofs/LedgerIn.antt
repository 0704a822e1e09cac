-- What stands in a ledger after references were counted.
use Prim.Native.Nat.{ℕ, zero, suc}
use mathlib.Core.Bool.{Bool, true, false}
use mathlib.Core.List.Memᴰ
use mathlib.Core.List.{List, [], ◌∷◌, Memᴰ}
use mathlib.Core.Logic.{◌⊎◌, inl, inr, ⊎_elim}
use mathlib.Core.Path.{◌≡◌, refl, ap, sym, ◌∙◌}
use native.Mathlib.Omega.{arith}
use borrow.Author.Tests.{eq-eqb, eqb-true}
use lib.ListN.{drop}
use lib.Dec.{eqb}
use Rattle.std.specs.Prelude.{if◌then◌else◌}
use Rattle.format.specs.Result.{value}
use Rattle.format.specs.Ledger.{Linked, linked, in_ledger, count_link}
use Rattle.laws.proofs.Results.{both_values}
use Rattle.ledger.proofs.LedgerLaws.{count-in, in-here, in-later}
use Rattle.links.specs.Reached.{Reference, target}
use Rattle.links.specs.Trace.{count_references}
use Rattle.links.proofs.Counting.{counting-keeps}

-- an object of the ledger has its address there
pub member-in : (os : List Linked) (o : Linked) → Memᴰ o os → in_ledger o.address os ≡ true
member-in [] o m = absurd (Memᴰ.not-nil m)
member-in (p ∷ os) o m = go (eqb o.address p.address) refl (Memᴰ.cases_cons m) (member-in os o)
  where
    go : (t : Bool) → eqb o.address p.address ≡ t → (o ≡ p) ⊎ Memᴰ o os → (Memᴰ o os → in_ledger o.address os ≡ true) →
        in_ledger o.address (p ∷ os) ≡ true
    go true h c i = in-here o.address p os h
    go false h (inl same) i = in-here o.address p os (eq-eqb o.address p.address (ap (λ (q : Linked). q.address) same))
    go false h (inr m') i = in-later o.address p os h ∙ i m'

-- an object that is taken is one of the ledger
pub taken-member : (i : ℕ) (os : List Linked) (o : Linked) (rest : List Linked) → drop i os ≡ o ∷ rest → Memᴰ o os
taken-member zero [] o rest e = let z : ◌≡◌ {A = ℕ} 0 1 = cc in absurd (omega arith)
taken-member zero (p ∷ os) o rest e = let same : o ≡ p = cc in Memᴰ.head same
taken-member (suc i) [] o rest e = let z : ◌≡◌ {A = ℕ} 0 1 = cc in absurd (omega arith)
taken-member (suc i) (p ∷ os) o rest e = Memᴰ.tail (taken-member i os o rest e)

-- what stands in the ledger after a link stood there before, or is the link's address
after-link : (a : ℕ) (os os' : List Linked) (x : ℕ) → count_link a os ≡ value os' → in_ledger x os' ≡ true → (in_ledger x os ≡ true) ⊎ (x ≡ a)
after-link a os os' x c h = go (in_ledger x os) (eqb x a) refl refl (sym (count-in a os os' c x) ∙ h)
  where
    go : (t u : Bool) → in_ledger x os ≡ t → eqb x a ≡ u → (if t then true else u) ≡ true → (in_ledger x os ≡ true) ⊎ (x ≡ a)
    go true u p q r = inl p
    go false true p q r = inr (eqb-true x a q)
    go false false p q r = let z : ◌≡◌ {A = ℕ} 0 1 = cc in absurd (omega arith)

-- what stood in the ledger stays there, and a link's address stands there after it
link-keeps : (x a : ℕ) (os os' : List Linked) → count_link a os ≡ value os' → in_ledger x os ≡ true → in_ledger x os' ≡ true
link-keeps x a os os' c h = count-in a os os' c x ∙ rw h

link-enters : (a : ℕ) (os os' : List Linked) → count_link a os ≡ value os' → in_ledger a os' ≡ true
link-enters a os os' c = count-in a os os' c a ∙ rw (eq-eqb a a refl) (go (in_ledger a os))
  where
    go : (t : Bool) → (if t then true else true) ≡ true
    go true = refl
    go false = refl

-- what stood there before references were counted stands there after them
pub counting-in : (rs : List Reference) (os os' : List Linked) → count_references rs os ≡ value os' → (x : ℕ) → in_ledger x os ≡ true → in_ledger x os' ≡ true
counting-in rs os os' c x h = counting-keeps (λ (ps : List Linked). in_ledger x ps ≡ true) (link-keeps x) rs os os' c h

-- A property of addresses that all in the ledger have, and all that the references give, all in the ledger have after them.
pub counting-within : (Q : ℕ → Type 0) (rs : List Reference) (os os' : List Linked) → count_references rs os ≡ value os' →
    ((r : Reference) → Memᴰ r rs → Q (target r)) → ((x : ℕ) → in_ledger x os ≡ true → Q x) → (x : ℕ) → in_ledger x os' ≡ true → Q x
unfolding count_references
counting-within Q [] os os' c q h = let same : os ≡ os' = cc in rw same at h
counting-within Q (r ∷ rs) os os' c q h =
    let b = both_values (count_link (target r) os) (count_references rs) os' c in
    counting-within Q rs b.0 os' b.2 (λ p m. q p (Memᴰ.tail m))
    (λ x i. ⊎_elim (h x) (λ same. rw same (q r (Memᴰ.head refl))) (after-link (target r) os b.0 x b.1 i))

-- every reference that was counted gives an address of the ledger
pub counted-in : (rs : List Reference) (os os' : List Linked) (r : Reference) → count_references rs os ≡ value os' → Memᴰ r rs →
    in_ledger (target r) os' ≡ true
unfolding count_references
counted-in [] os os' r c m = absurd (Memᴰ.not-nil m)
counted-in (p ∷ rs) os os' r c m =
    let b = both_values (count_link (target p) os) (count_references rs) os' c in
    ⊎_elim
    (λ same.
    let d : count_link (target r) os ≡ value b.0 = ap (λ (q : Reference). count_link (target q) os) same ∙ b.1 in
    counting-in rs b.0 os' b.2 (target r) (link-enters (target r) os b.0 d))
    (λ rest. counted-in rs b.0 os' r b.2 rest) (Memᴰ.cases_cons m)

-- the ledger that an audit begins with
pub in-first : (x root : ℕ) → in_ledger x (linked root 1 ∷ []) ≡ true → x ≡ root
unfolding in_ledger
in-first x root h = go (eqb x root) refl h
  where
    go : (t : Bool) → eqb x root ≡ t → (if t then true else false) ≡ true → x ≡ root
    go true e r = eqb-true x root e
    go false e r = let z : ◌≡◌ {A = ℕ} 0 1 = cc in absurd (omega arith)

pub root_in : (rs : List Reference) (root : ℕ) (os : List Linked) → count_references rs (linked root 1 ∷ []) ≡ value os → in_ledger root os ≡ true
root_in rs root os c = counting-in rs _ os c root (in-here root (linked root 1) [] (eq-eqb root root refl))
