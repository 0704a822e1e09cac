-- The place of an object in the ledger: it stays as the ledger grows.
use Prim.Native.Nat.{ℕ, zero, suc}
use mathlib.Core.Bool.{Bool, true, false}
use mathlib.Core.List.{List, [], ◌∷◌, ◌++◌}
use mathlib.Core.Path.{◌≡◌, refl, ap, sym, ◌∙◌}
use native.Mathlib.Omega.{arith}
use borrow.Author.Tests.{eq-eqb, eqb-true}
use lib.Dec.{eqb}
use lib.ListN.{drop}
use Rattle.std.specs.Prelude.{if◌then◌else◌}
use Rattle.format.specs.Ledger.{Linked, in_ledger}
use Rattle.format.specs.Sharing.{place_of}
use Rattle.ledger.specs.Links.{addresses_of, Distinct}
use Rattle.links.proofs.LedgerIn.{member-in, taken-member}

-- new addresses come behind those that are there
pub place_kept : (x : ℕ) (os os' : List Linked) (new : List ℕ) → in_ledger x os ≡ true → addresses_of os' ≡ addresses_of os ++ new →
    place_of x os' ≡ place_of x os
unfolding in_ledger addresses_of place_of
place_kept x [] os' new h e = let z : ◌≡◌ {A = ℕ} 0 1 = cc in absurd (omega arith)
place_kept x (o ∷ os) [] new h e = let z : ◌≡◌ {A = ℕ} 0 1 = cc in absurd (omega arith)
place_kept x (o ∷ os) (p ∷ os') new h e =
    let first : p.address ≡ o.address = cc in
    let rest : addresses_of os' ≡ addresses_of os ++ new = cc in
    rw first (go (eqb x o.address) h (λ i. place_kept x os os' new i rest))
  where
    go : (t : Bool) → (if t then true else in_ledger x os) ≡ true → (in_ledger x os ≡ true → place_of x os' ≡ place_of x os) →
        (if t then 0 else suc (place_of x os')) ≡ (if t then 0 else suc (place_of x os))
    go true i k = refl
    go false i k = ap suc (k i)

-- where no address stands twice, the i-th object has the place i
pub taken-place : (i : ℕ) (os : List Linked) (o : Linked) (rest : List Linked) → Distinct os → drop i os ≡ o ∷ rest → place_of o.address os ≡ i
unfolding place_of
taken-place zero [] o rest d e = refl
taken-place zero (p ∷ os) o rest d e = let same : o.address ≡ p.address = cc in rw (eq-eqb o.address p.address same)
taken-place (suc i) [] o rest d e = let z : ◌≡◌ {A = ℕ} 0 1 = cc in absurd (omega arith)
taken-place (suc i) (p ∷ os) o rest d e = go (eqb o.address p.address) refl (taken-place i os o rest d.1 e)
  where
    go : (t : Bool) → eqb o.address p.address ≡ t → place_of o.address os ≡ i → (if t then 0 else suc (place_of o.address os)) ≡ suc i
    go true h k =
        let z : true ≡ false =
        sym (member-in os o (taken-member i os o rest e)) ∙ ap (λ (x : ℕ). in_ledger x os) (eqb-true o.address p.address h) ∙ d.0 in
        let y : ◌≡◌ {A = ℕ} 0 1 = cc in
        absurd (omega arith)
    go false h k = ap suc k
