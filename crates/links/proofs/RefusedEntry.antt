-- What the answer to a block that can't be entered says of it.
use Prim.Native.Nat.{ℕ, ◌+◌, ◌≤◌, ◌<◌}
use mathlib.Core.Bool.{Bool, true, false}
use mathlib.Core.List.{List}
use mathlib.Core.Logic.{inl, inr}
use mathlib.Core.Path.{◌≡◌, refl}
use native.Mathlib.Omega.{arith}
use borrow.Author.Tests.{leb-true, leb-false, ltb-false}
use lib.Dec.{leb, ltb}
use lib.ListN.{length}
use Rattle.std.specs.Prelude.{if◌then◌else◌}
use Rattle.format.specs.Bytes.{part}
use Rattle.format.specs.Blocks.{Block, overlaps_any, entry_answer}
use Rattle.format.specs.Walk.{Kind, Length, fixed, stored, shown, length_in, known_length}
use Rattle.laws.proofs.Plan.{known-inside}
use Rattle.links.specs.Placed.{NotEnterable}

-- so much of a block as is known isn't inside either
known-outside : (im : List ℕ) (eof : ℕ) (v : Kind) (a : ℕ) (l : Length) → eof < a + length_in im v a l → eof < a + known_length im eof v a l
known-outside im eof v a (fixed n) h = h
known-outside im eof v a (stored p rest) h = go (leb (a + p) eof) refl
  where
    go : (t : Bool) → leb (a + p) eof ≡ t → eof < a + (if t then p + rest (shown v (part im a p)) else p)
    go true e = h
    go false e = omega (arith, leb-false (a + p) eof e)

module _ (eof room : ℕ) (bs : List Block) (a n known : ℕ) (inner : a + n ≤ eof → known ≡ n) (outer : eof < a + n → eof < a + known) where
  by_tests : (t u v : Bool) → leb (a + n) eof ≡ t → overlaps_any bs a n ≡ u → ltb (length bs) room ≡ v → (answer : ℕ) →
      (if t then if u then 6 else if v then 0 else 13 else 5) ≡ answer → (answer ≡ 0 → ⊥) → NotEnterable eof room bs answer a known
  by_tests false u v p q r answer e z = record {
    numbers = inl (rw (← e) refl);
    outside = λ _. outer (leb-false (a + n) eof p);
    inside = λ h. absurd (h (rw (← e) refl));
    meets = λ h. absurd (omega (arith, h, e));
    full = λ h. absurd (omega (arith, h, e));
    apart = λ h. absurd (omega (arith, h, e));
  }
  by_tests true true v p q r answer e z =
      let whole = inner (leb-true (a + n) eof p) in
      record {
        numbers = inr (inl (rw (← e) refl));
        outside = λ h. absurd (omega (arith, h, e));
        inside = λ _. omega (arith, whole, leb-true (a + n) eof p);
        meets = λ _. rw whole q;
        full = λ h. absurd (omega (arith, h, e));
        apart = λ h. absurd (omega (arith, h, e));
      }
  by_tests true false true p q r answer e z = absurd (z (rw (← e) refl))
  by_tests true false false p q r answer e z =
      let whole = inner (leb-true (a + n) eof p) in
      record {
        numbers = inr (inr (rw (← e) refl));
        outside = λ h. absurd (omega (arith, h, e));
        inside = λ _. omega (arith, whole, leb-true (a + n) eof p);
        meets = λ h. absurd (omega (arith, h, e));
        full = λ _. ltb-false (length bs) room r;
        apart = λ _. rw whole q;
      }

pub not-enterable : (im : List ℕ) (eof room : ℕ) (v : Kind) (a : ℕ) (l : Length) (answer : ℕ) (bs : List Block) →
    entry_answer eof room bs a (length_in im v a l) ≡ answer → (answer ≡ 0 → ⊥) → NotEnterable eof room bs answer a (known_length im eof v a l)
unfolding entry_answer
not-enterable im eof room v a l answer bs e z =
    let n = length_in im v a l in
    by_tests eof room bs a n (known_length im eof v a l) (known-inside im eof v a l) (known-outside im eof v a l) (leb (a + n) eof) (overlaps_any bs a n)
    (ltb (length bs) room) refl refl refl answer e z
