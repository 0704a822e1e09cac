-- What the searches for a NUL have found, by where they stand.
use Prim.Native.Nat.{ℕ, ◌+◌, ◌-◌, ◌≤◌, ◌<◌}
use mathlib.Core.Bool.{Bool, true, false}
use mathlib.Core.List.{List}
use mathlib.Core.Path.{◌≡◌, refl}
use native.Mathlib.Omega.{arith}
use borrow.Author.Tests.{ltb-true, ltb-false}
use lib.Dec.{ltb}
use lib.ListN.{length, get_or, drop}
use Rattle.format.specs.Bytes.{part, contains}
use Rattle.format.specs.Names.{before_nul}
use Rattle.order.proofs.Sixteen.{none_found}
use Rattle.nul.specs.Nul.{NulWithin, NoneFrom}
use Rattle.nul.proofs.NulLaws.{nul-later, nul-behind}

-- the search from off on stands at i: no byte before i is a NUL
pub record At (seg : List ℕ) (off most i : ℕ) : Type 0 where
  pub behind : off ≤ i
  pub left : i ≤ off + most
  pub inside : i ≤ length seg
  pub rest : off + before_nul (drop off seg) ≡ i + before_nul (drop i seg)

-- no byte passed
pub at-start : (seg : List ℕ) (off most : ℕ) → off ≤ length seg → At seg off most off
at-start seg off most h = record { behind = omega arith; left = omega arith; inside = h; rest = refl }

-- by what is met at i
module _ (seg : List ℕ) (off most i : ℕ) (a : At seg off most i) where
  -- a NUL or the segment's end at i
  pub within-nul : before_nul (drop i seg) ≡ 0 → NulWithin seg off most i
  within-nul e = record { value = omega (arith, a.rest, a.left, a.behind); inside = a.inside }

  -- one byte passed
  pub at_next : i - off < most → i < length seg → (get_or seg i 0 ≡ 0 → ⊥) → At seg off most (i + 1)
  at_next m h e =
      let n = nul-later seg i h e in
      record { behind = omega (arith, a.behind); left = omega (arith, a.left, a.behind); inside = omega arith; rest = omega (arith, a.rest, n) }

  -- sixteen bytes passed
  pub at-16 : 16 ≤ most - (i - off) → i + 16 ≤ length seg → contains 0 (part seg i 16) ≡ false → At seg off most (i + 16)
  at-16 m h e =
      let n = nul-behind seg 16 i h (none_found 0 seg i 16 h e) in
      record { behind = omega (arith, a.behind); left = omega (arith, a.left, a.behind); inside = h; rest = omega (arith, a.rest, n) }

-- no byte from end - n on is a NUL, where none from end on is
pub none_from : (seg : List ℕ) (end n : ℕ) → n ≤ end → end ≤ length seg → ((k : ℕ) → k < n → get_or seg (end - n + k) 0 ≡ 0 → ⊥) → NoneFrom seg end →
    NoneFrom seg (end - n)
none_from seg end n h l f g k a b e = go (ltb k end) refl
  where
    go : (t : Bool) → ltb k end ≡ t → ⊥
    go true p =
        let o : k < end = ltb-true k end p in
        let q : k ≡ end - n + (k - (end - n)) = omega arith in
        f (k - (end - n)) (omega arith) (rw q at e)
    go false p = g k (ltb-false k end p) b e

-- the same by the one byte before end
pub none-next : (seg : List ℕ) (end : ℕ) → 0 < end → end ≤ length seg → (get_or seg (end - 1) 0 ≡ 0 → ⊥) → NoneFrom seg end → NoneFrom seg (end - 1)
none-next seg end h l f =
    none_from seg end 1 (omega arith) l (λ k a e. let z : end - 1 + k ≡ end - 1 = omega arith in f (rw z at e))
