-- Strings taken in parts: what both begin with, and one byte more of a part.
use Prim.Native.Nat.{ℕ, ◌+◌, ◌<◌}
use mathlib.Core.Bool.{Bool, true, false, ◌&&◌, ◌||◌}
use mathlib.Core.List.{List, [], ◌∷◌, ◌++◌}
use mathlib.Core.Path.{◌≡◌, refl}
use native.Mathlib.Omega.{arith}
use native.Mathlib.Numerals.{add-one}
use lib.Dec.{eqb}
use lib.ListN.{length, get_or, drop, length-drop}
use lib.Seq.{take-suc, get_or-drop}
use Rattle.std.specs.Prelude.{if◌then◌else◌}
use Rattle.format.specs.Bytes.{part, same_bytes, contains}
use Rattle.format.specs.Names.{below}
use Rattle.order.proofs.OrderLaws.{below_rest}

-- the same bytes at the start decide nothing
module _ (a b : List ℕ) where
  pub below-behind-start : (p : List ℕ) → below (p ++ a) (p ++ b) ≡ below a b
  below-behind-start [] = refl
  below-behind-start (x ∷ p) = rw (below_rest x x (p ++ a) (p ++ b) refl, below-behind-start p)

-- two strings in two parts each, the first of one length
pub same_parts : (a b c d : List ℕ) → length a ≡ length b → same_bytes (a ++ c) (b ++ d) ≡ (same_bytes a b && same_bytes c d)
unfolding same_bytes
same_parts [] [] c d e = refl
same_parts [] (y ∷ ys) c d e = absurd (omega arith)
same_parts (x ∷ xs) [] c d e = absurd (omega arith)
same_parts (x ∷ xs) (y ∷ ys) c d e = go (eqb x y) (same_parts xs ys c d (omega arith))
  where
    go : (t : Bool) → same_bytes (xs ++ c) (ys ++ d) ≡ (same_bytes xs ys && same_bytes c d) →
        (t && same_bytes (xs ++ c) (ys ++ d)) ≡ ((t && same_bytes xs ys) && same_bytes c d)
    go true r = r
    go false r = refl

-- a string in two parts
pub contains-parts : (x : ℕ) (a b : List ℕ) → contains x (a ++ b) ≡ (contains x a || contains x b)
unfolding contains
contains-parts x [] b = refl
contains-parts x (y ∷ ys) b = go (eqb x y) (contains-parts x ys b)
  where
    go : (t : Bool) → contains x (ys ++ b) ≡ (contains x ys || contains x b) →
        (if t then true else contains x (ys ++ b)) ≡ ((if t then true else contains x ys) || contains x b)
    go true r = refl
    go false r = r

-- a part with one byte more
pub part-more : (s : List ℕ) (at k : ℕ) → at + k < length s → part s at (k + 1) ≡ part s at k ++ (get_or s (at + k) 0 ∷ [])
part-more s at k h =
    let l : k < length (drop at s) = simp length-drop (omega arith) in
    rw (add-one, take-suc (drop at s) k 0 l, get_or-drop)
