-- The references that an audit counted, all together.
use Prim.Native.Nat.{ℕ, zero, suc, ◌+◌}
use mathlib.Core.Bool.{Bool, true, false}
use mathlib.Core.List.Memᴰ
use mathlib.Core.List.{List, [], ◌∷◌, ◌++◌, flatten, Memᴰ}
use mathlib.Core.Logic.{⊎_elim}
use mathlib.Core.Path.{◌≡◌, refl, ap, ◌∙◌}
use native.Mathlib.Omega.{arith}
use native.Mathlib.Numerals.{add-one}
use borrow.Author.Tests.{eqb-true}
use lib.Dec.{eqb}
use lib.ListN.{drop}
use Rattle.std.specs.Prelude.{if◌then◌else◌}
use Rattle.format.specs.Result.{value}
use Rattle.format.specs.Ledger.{Linked, in_ledger}
use Rattle.ledger.specs.Links.{addresses_of}
use Rattle.links.specs.Reached.{Reference, Each}
use Rattle.links.proofs.Counting.{counted-on, counting-appends}
use Rattle.links.specs.Trace.{count_references, Trace, ended, next}

pub drop-addresses : (i : ℕ) (os : List Linked) → drop i (addresses_of os) ≡ addresses_of (drop i os)
unfolding addresses_of
drop-addresses zero os = refl
drop-addresses (suc i) [] = refl
drop-addresses (suc i) (o ∷ os) = drop-addresses i os

-- what stands at i stands there still with more behind it
pub drop-first : (i : ℕ) (xs new : List ℕ) (x : ℕ) (rest : List ℕ) → drop i xs ≡ x ∷ rest → drop i (xs ++ new) ≡ x ∷ drop (suc i) (xs ++ new)
drop-first zero [] new x rest e = let z : ◌≡◌ {A = ℕ} 0 1 = cc in absurd (omega arith)
drop-first zero (y ∷ xs) new x rest e = let same : y ≡ x = cc in rw same
drop-first (suc i) [] new x rest e = let z : ◌≡◌ {A = ℕ} 0 1 = cc in absurd (omega arith)
drop-first (suc i) (y ∷ xs) new x rest e = drop-first i xs new x rest e

-- the objects of the last ledger from the i-th on have references, which lead to it from the ledger os
abbrev pub Counts : (ℕ → List Reference → Type 0) → ℕ → List Linked → List Linked → Type 0
Counts P i os os' = (rss : List (List Reference)) × Each P (drop i (addresses_of os')) rss × (count_references (flatten rss) os ≡ value os')

module _ (P : ℕ → List Reference → Type 0) where
  counts-none : (i : ℕ) (os : List Linked) → drop i os ≡ [] → Counts P i os os
  unfolding count_references Each flatten addresses_of
  counts-none i os d = let end : drop i (addresses_of os) ≡ [] = drop-addresses i os ∙ ap addresses_of d in ([], rw end tt, refl)

  counts-first : (i : ℕ) (o : Linked) (rest os ps os' : List Linked) (rs : List Reference) → drop i os ≡ o ∷ rest → P o.address rs →
      count_references rs os ≡ value ps → Counts P (i + 1) ps os' → Counts P i os os'
  unfolding Each flatten addresses_of
  counts-first i o rest os ps os' rs d p c n =
      let later = flatten n.0 in
      let counted : count_references (rs ++ later) os ≡ value os' = counted-on rs later os ps os' c n.2 in
      let grown = counting-appends (rs ++ later) os os' counted in
      let first : drop i (addresses_of os') ≡ o.address ∷ drop (i + 1) (addresses_of os') =
      rw (grown.1, add-one) (drop-first i (addresses_of os) grown.0 o.address (addresses_of rest) (drop-addresses i os ∙ ap addresses_of d)) in
      (rs ∷ n.0, rw first (p, n.1), counted)

  pub trace-references : {i : ℕ} {os os' : List Linked} → Trace P i os os' → Counts P i os os'
  trace-references {i} {os} (ended d) = counts-none i os d
  trace-references {i} {os} {os'} (next {o = o} {rest = rest} {ps = ps} {rs = rs} d p c t) = counts-first i o rest os ps os' rs d p c (trace-references t)

-- what holds of each object that was taken, put another way
pub trace-map : (P Q : ℕ → List Reference → Type 0) → ((a : ℕ) (rs : List Reference) → P a rs → Q a rs) → {i : ℕ} {os os' : List Linked} →
    Trace P i os os' → Trace Q i os os'
trace-map P Q f (ended d) = ended d
trace-map P Q f (next {o = o} {rs = rs} d p c t) = next d (f o.address rs p) c (trace-map P Q f t)

pub each_map : (P Q : ℕ → List Reference → Type 0) → ((a : ℕ) (rs : List Reference) → P a rs → Q a rs) → (addresses : List ℕ) (rss : List (List Reference)) →
    Each P addresses rss → Each Q addresses rss
unfolding Each
each_map P Q f [] [] h = tt
each_map P Q f [] (rs ∷ rss) h = absurd h
each_map P Q f (a ∷ rest) [] h = absurd h
each_map P Q f (a ∷ rest) (rs ∷ rss) h = (f a rs h.0, each_map P Q f rest rss h.1)

-- an object of the ledger has references, and they are among all that were counted
pub each-find : (P : ℕ → List Reference → Type 0) (x : ℕ) (os : List Linked) (rss : List (List Reference)) → in_ledger x os ≡ true →
    Each P (addresses_of os) rss →
    (rs : List Reference) × P x rs × ((r : Reference) → Memᴰ r rs → Memᴰ r (flatten rss))
unfolding in_ledger addresses_of Each flatten
each-find P x [] rss h r = let z : ◌≡◌ {A = ℕ} 0 1 = cc in absurd (omega arith)
each-find P x (o ∷ os) [] h r = absurd r
each-find P x (o ∷ os) (rs ∷ rss) h r = go (eqb x o.address) refl h (λ i. each-find P x os rss i r.1)
  where
    go : (t : Bool) → eqb x o.address ≡ t → (if t then true else in_ledger x os) ≡ true →
        (in_ledger x os ≡ true → (ss : List Reference) × P x ss × ((q : Reference) → Memᴰ q ss → Memᴰ q (flatten rss))) →
        (ss : List Reference) × P x ss × ((q : Reference) → Memᴰ q ss → Memᴰ q (rs ++ flatten rss))
    go true e i later = (rs, rw (eqb-true x o.address e) r.0, λ q m. Memᴰ.append_left (flatten rss) m)
    go false e i later = let n = later i in (n.0, n.1, λ q m. Memᴰ.append_right rs (n.2 q m))

-- a reference among all is one of an object's
pub flatten-find : (P : ℕ → List Reference → Type 0) (r : Reference) (addresses : List ℕ) (rss : List (List Reference)) → Each P addresses rss →
    Memᴰ r (flatten rss) →
    (a : ℕ) × (rs : List Reference) × P a rs × Memᴰ r rs
unfolding Each flatten
flatten-find P r [] [] h m = absurd (Memᴰ.not-nil m)
flatten-find P r [] (rs ∷ rss) h m = absurd h
flatten-find P r (a ∷ rest) [] h m = absurd h
flatten-find P r (a ∷ rest) (rs ∷ rss) h m = ⊎_elim (λ i. (a, rs, h.0, i)) (flatten-find P r rest rss h.1) (Memᴰ.append_cases rs m)
