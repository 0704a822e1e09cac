-- Predicates of numbers that hold of all numbers of a list, tested by computing.
use Prim.Native.Nat.{ℕ}
use mathlib.Core.Bool.{Bool, true, false}
use mathlib.Core.List.{List, [], ◌∷◌, Memᴰ}
use mathlib.Core.Path.{◌≡◌, refl}
use native.Mathlib.Omega.{arith}
use borrow.Author.Tests.{eqb-true}
use lib.Dec.{eqb}
use Rattle.std.specs.Prelude.{if◌then◌else◌}
use Rattle.format.specs.Bytes.{contains}

-- the predicate holds of every number of the list
abbrev pub Includes : (ℕ → Type 0) → List ℕ → Type 0
Includes N ns = (n : ℕ) → contains n ns ≡ true → N n

-- the same, number by number
abbrev pub AllOf : (ℕ → Type 0) → List ℕ → Type 0
AllOf N [] = Unit {0}
AllOf N (n ∷ ns) = N n × AllOf N ns

pub includes-all : (N : ℕ → Type 0) (ns : List ℕ) → AllOf N ns → Includes N ns
unfolding contains
includes-all N [] h n e = let z : ◌≡◌ {A = ℕ} 0 1 = cc in absurd (omega arith)
includes-all N (m ∷ ns) h n e = go (eqb n m) refl e (includes-all N ns h.1 n)
  where
    go : (t : Bool) → eqb n m ≡ t → (if t then true else contains n ns) ≡ true → (contains n ns ≡ true → N n) → N n
    go true q r rest = let same : n ≡ m = eqb-true n m q in rw same h.0
    go false q r rest = rest r

-- a number that a list contains is a member of it
pub includes-members : (ns : List ℕ) → Includes (λ n. Memᴰ n ns) ns
unfolding contains
includes-members [] n e = let z : ◌≡◌ {A = ℕ} 0 1 = cc in absurd (omega arith)
includes-members (m ∷ ns) n e = go (eqb n m) refl e (includes-members ns n)
  where
    go : (t : Bool) → eqb n m ≡ t → (if t then true else contains n ns) ≡ true → (contains n ns ≡ true → Memᴰ n ns) → Memᴰ n (m ∷ ns)
    go true q r rest = Memᴰ.head (eqb-true n m q)
    go false q r rest = Memᴰ.tail (rest r)

-- every number of the first list is in the second
abbrev pub all_in : List ℕ → List ℕ → Bool
all_in [] ns = true
all_in (m ∷ ms) ns = if contains m ns then all_in ms ns else false

members-in : (ms ns : List ℕ) → all_in ms ns ≡ true → AllOf (λ n. Memᴰ n ns) ms
members-in [] ns e = tt
members-in (m ∷ ms) ns e = go (contains m ns) refl e (members-in ms ns)
  where
    go : (t : Bool) → contains m ns ≡ t → (if t then all_in ms ns else false) ≡ true → (all_in ms ns ≡ true → AllOf (λ n. Memᴰ n ns) ms) →
        AllOf (λ n. Memᴰ n ns) (m ∷ ms)
    go true q r rest = (includes-members ns m q, rest r)
    go false q r rest = let z : ◌≡◌ {A = ℕ} 0 1 = cc in absurd (omega arith)

pub includes-in : (ms ns : List ℕ) → all_in ms ns ≡ true → Includes (λ n. Memᴰ n ns) ms
includes-in ms ns e = includes-all (λ n. Memᴰ n ns) ms (members-in ms ns e)

-- no number of the list is z
pub includes_none : (z : ℕ) (ns : List ℕ) → contains z ns ≡ false → Includes (λ n. n ≡ z → ⊥) ns
includes_none z ns e n m q =
    let there : contains z ns ≡ true = rw q at m in
    let c : ◌≡◌ {A = ℕ} 0 1 = cc in
    omega arith
