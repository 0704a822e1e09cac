-- When lists hold the same bytes, and what the library's comparison and search find.
use Prim.Native.Nat.{ℕ}
use mathlib.Core.Bool.{Bool, true, false, ◌&&◌, ◌||◌}
use mathlib.Core.List.{List, [], ◌∷◌}
use mathlib.Core.Path.{◌≡◌, refl, ap, sym}
use borrow.Author.Tests.{eqb-true, eqb-false}
use lib.Dec.{eqb}
use lib.ListN.{length, get_or}
use lib.Pointwise.{pointwise}
use Rattle.std.specs.List.{list_any}
use Rattle.std.specs.Prelude.{if◌then◌else◌}
use Rattle.format.specs.Bytes.{same_bytes, contains}
use Rattle.order.proofs.OrderLaws.{same-equal}

-- lists of different lengths don't hold the same bytes
pub same-lengths : (a b : List ℕ) → (length a ≡ length b → ⊥) → false ≡ same_bytes a b
same-lengths a b h = go (same_bytes a b) refl
  where
    go : (t : Bool) → same_bytes a b ≡ t → false ≡ t
    go true p = absurd (h (ap length (same-equal a b p)))
    go false p = refl

-- nor do lists with another byte at one place
pub same_at : (a b : List ℕ) (i : ℕ) → (get_or a i 0 ≡ get_or b i 0 → ⊥) → false ≡ same_bytes a b
same_at a b i h = go (same_bytes a b) refl
  where
    go : (t : Bool) → same_bytes a b ≡ t → false ≡ t
    go true p = absurd (h (ap (λ s. get_or s i 0) (same-equal a b p)))
    go false p = refl

-- what the library's comparison of two lists finds
pub pointwise-same : (a b : List ℕ) → pointwise eqb a b ≡ same_bytes a b
unfolding same_bytes
pointwise-same [] [] = refl
pointwise-same [] (y ∷ ys) = refl
pointwise-same (x ∷ xs) [] = refl
pointwise-same (x ∷ xs) (y ∷ ys) = ap (λ (t : Bool). eqb x y && t) (pointwise-same xs ys)

-- and what its search in a list finds
pub any-contains : (x : ℕ) (s : List ℕ) → list_any (λ y. eqb y x) s ≡ contains x s
unfolding contains
any-contains x [] = refl
any-contains x (y ∷ ys) = go (eqb y x) (eqb x y) refl refl (any-contains x ys)
  where
    go : (t u : Bool) → eqb y x ≡ t → eqb x y ≡ u → list_any (λ z. eqb z x) ys ≡ contains x ys →
        (t || list_any (λ z. eqb z x) ys) ≡ (if u then true else contains x ys)
    go true true p q r = refl
    go true false p q r = absurd (eqb-false x y q (sym (eqb-true y x p)))
    go false true p q r = absurd (eqb-false y x p (sym (eqb-true x y q)))
    go false false p q r = r
