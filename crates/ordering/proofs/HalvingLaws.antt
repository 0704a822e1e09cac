-- The number of tests of a halving: what is left to search halves with each.
use Prim.Native.Nat.{ℕ, zero, suc, ◌+◌, ◌-◌, ◌/◌, ◌^◌, ◌≤◌, ◌<◌}
use mathlib.Core.Path.{◌≡◌, refl}
use native.Mathlib.Omega.{arith}
use native.Mathlib.Nat.{pow-zero, two-pow-succ}

abbrev pub Halved : ℕ → ℕ → ℕ → Type 0
Halved n tests width = (m : ℕ) → n < 2 ^ m → (tests ≤ m) × (width < 2 ^ (m - tests))

pub halved_none : (n : ℕ) → Halved n 0 (n - 0)
halved_none n m h =
    let e : m - 0 ≡ m = omega arith in
    let f : n - 0 ≡ n = omega arith in
    (omega arith, rw (e, f) h)

pub halved-more : (n tests width width' : ℕ) → 0 < width → width' ≤ width / 2 → Halved n tests width → Halved n (tests + 1) width'
halved-more n tests width width' p l d m h = go (m - tests) refl
  where
    go : (j : ℕ) → m - tests ≡ j → (tests + 1 ≤ m) × (width' < 2 ^ (m - (tests + 1)))
    go zero e = absurd (omega (arith, pow-zero 2, rw e at (d m h).1))
    go (suc j) e =
        let f : m - (tests + 1) ≡ j = omega arith in
        (omega arith, rw f (omega (arith, two-pow-succ j, rw e at (d m h).1)))

pub tests-few : (n tests width : ℕ) → Halved n tests width → (m : ℕ) → n < 2 ^ m → tests ≤ m
tests-few n tests width d m h = (d m h).0
