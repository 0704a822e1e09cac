-- The first sixteen bytes of a string.
use Prim.Native.Nat.{ℕ, zero, suc, ◌+◌, ◌^◌, ◌≤◌, ◌<◌}
use mathlib.Core.Bool.{Bool, true, false}
use mathlib.Core.List.{List, [], ◌∷◌}
use mathlib.Core.Path.{◌≡◌, refl, ap, sym, ◌∙◌}
use native.Mathlib.Omega.{arith}
use borrow.Author.Tests.{ne_eqb}
use lib.ListN.{length, take, drop, take-append-drop}
use lib.Seq.{take-take}
use Rattle.format.specs.Limits.{name_most}
use Rattle.format.specs.Bytes.{part, contains}
use Rattle.format.specs.Names.{before_nul, string_at}
use Rattle.order.proofs.Parts.{contains-parts}
use Rattle.order.proofs.Sixteen.{none_found}
use Rattle.nul.proofs.NulLaws.{nul-behind}
use Rattle.names.specs.Sizes.{Plain, Slashless}

-- a name may have 16 bytes, and not as many as there are numbers
pub sixteen : 16 ≤ name_most
unfolding name_most
sixteen = omega arith

pub name-bound : name_most < 2 ^ 32
unfolding name_most
name-bound = omega arith

-- what is among the first n bytes is among all
pub contains-start : (x n : ℕ) (xs : List ℕ) → contains x (take n xs) ≡ true → contains x xs ≡ true
contains-start x n xs e = ap (contains x) (sym (take-append-drop n xs)) ∙ contains-parts x (take n xs) (drop n xs) ∙ rw e

-- a NUL among the first n bytes ends the string there
nul-among : (n : ℕ) (xs : List ℕ) → contains 0 (take n xs) ≡ true → before_nul xs < n
unfolding contains before_nul
nul-among zero xs e = let z : ◌≡◌ {A = ℕ} 0 1 = cc in absurd (omega arith)
nul-among (suc n) [] e = let z : ◌≡◌ {A = ℕ} 0 1 = cc in absurd (omega arith)
nul-among (suc n) (zero ∷ xs) e = omega arith
nul-among (suc n) (suc x ∷ xs) e = omega (arith, nul-among n xs (rw (ne_eqb 0 (suc x) (λ q. omega arith)) at e))

-- no byte passed
pub plain-none : (seg : List ℕ) (off : ℕ) → Plain seg off 0
unfolding contains
plain-none seg off = record { long = let z : off + 0 ≡ off = omega arith in rw z (omega arith); plain = refl }

-- n bytes without a NUL
pub passed-more : (seg : List ℕ) (off n : ℕ) → off + n ≤ length seg → contains 0 (part seg off n) ≡ false →
    before_nul (drop off seg) ≡ n + before_nul (drop (off + n) seg)
passed-more seg off n h e = nul-behind seg n off h (none_found 0 seg off n h e)

pub passed_none : (seg : List ℕ) (off : ℕ) → before_nul (drop off seg) ≡ 0 + before_nul (drop (off + 0) seg)
passed_none seg off = let z : off + 0 ≡ off = omega arith in rw z (omega arith)

-- sixteen bytes
module _ (seg : List ℕ) (off : ℕ) where
  -- without a '/': fewer have none
  pub fewer : contains 0x2f (part seg off 16) ≡ false → (m : ℕ) → m ≤ 16 → contains 0x2f (part seg off m) ≡ false
  fewer s m h = go (contains 0x2f (part seg off m)) refl
    where
      go : (t : Bool) → contains 0x2f (part seg off m) ≡ t → t ≡ false
      go true p = sym (contains-start 0x2f m (part seg off 16) (ap (contains 0x2f) (take-take m 16 (drop off seg) h) ∙ p)) ∙ s
      go false p = refl

  -- with a NUL
  module _ (e : contains 0 (part seg off 16) ≡ true) {n : ℕ} (q : n ≡ before_nul (drop off seg)) where
    pub ends-within : n < 16
    ends-within = omega (arith, nul-among 16 (drop off seg) e, q)

    pub ends-plain : contains 0x2f (part seg off n) ≡ false → Slashless seg off n
    unfolding string_at
    ends-plain s = record { size = sym q; most = omega (arith, sixteen, ends-within); plain = rw q at s }

  -- without a NUL
  module _ (h : off + 16 ≤ length seg) (e : contains 0 (part seg off 16) ≡ false) where
    pub goes_on : contains 0x2f (part seg off 16) ≡ false → Plain seg off 16
    goes_on s = record { long = passed-more seg off 16 h e; plain = s }

    pub slash-first : contains 0x2f (part seg off 16) ≡ true → contains 0x2f (string_at seg off) ≡ true
    unfolding string_at
    slash-first s =
        contains-start 0x2f 16 (part seg off (before_nul (drop off seg)))
        (ap (contains 0x2f) (take-take 16 (before_nul (drop off seg)) (drop off seg) (omega (arith, passed-more seg off 16 h e))) ∙ s)
