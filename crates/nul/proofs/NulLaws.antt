-- Where the first NUL from a byte on stands, and what the last one says of it.
use Prim.Native.Nat.{ℕ, zero, suc, ◌+◌, ◌-◌, ◌≤◌, ◌<◌}
use mathlib.Core.Bool.{Bool, true, false}
use mathlib.Core.List.{List, ◌∷◌}
use mathlib.Core.Path.{◌≡◌, refl}
use native.Mathlib.Omega.{arith}
use native.Mathlib.Numerals.{add-one}
use borrow.Author.Tests.{eqb-true, eqb-false}
use lib.Dec.{eqb}
use lib.ListN.{length, get_or, drop, drop_of_length-le}
use lib.Seq.{drop-cons}
use Rattle.format.specs.Names.{before_nul}
use Rattle.nul.specs.Nul.{LastNul}

-- by the byte at i
module _ (seg : List ℕ) (i : ℕ) where
  pub nul-here : i < length seg → get_or seg i 0 ≡ 0 → before_nul (drop i seg) ≡ 0
  unfolding before_nul
  nul-here h e = rw (drop-cons seg i 0 h, e)

  pub nul-later : i < length seg → (get_or seg i 0 ≡ 0 → ⊥) → before_nul (drop i seg) ≡ 1 + before_nul (drop (i + 1) seg)
  unfolding before_nul
  nul-later h n = rw (drop-cons seg i 0 h, add-one) (go (get_or seg i 0) n)
    where
      go : (b : ℕ) → (b ≡ 0 → ⊥) → before_nul (b ∷ drop (suc i) seg) ≡ 1 + before_nul (drop (suc i) seg)
      go zero n = absurd (n refl)
      go (suc b) n = omega arith

  pub nul-none : length seg ≤ i → before_nul (drop i seg) ≡ 0
  unfolding before_nul
  nul-none h = rw (drop_of_length-le seg {i = i} h)

-- by n bytes, none of which is a NUL
pub nul-behind : (seg : List ℕ) (n i : ℕ) → i + n ≤ length seg → ((k : ℕ) → k < n → get_or seg (i + k) 0 ≡ 0 → ⊥) →
    before_nul (drop i seg) ≡ n + before_nul (drop (i + n) seg)
nul-behind seg zero i h f = let e : i + 0 ≡ i = omega arith in rw e (omega arith)
nul-behind seg (suc n) i h f =
    let z : i + 0 ≡ i = omega arith in
    let e : i + suc n ≡ i + 1 + n = omega arith in
    let here = nul-later seg i (omega arith) (rw z at (f 0 (omega arith))) in
    let rest = nul-behind seg n (i + 1) (omega arith) (λ k l. let g : i + 1 + k ≡ i + (k + 1) = omega arith in rw g (f (k + 1) (omega arith))) in
    rw e (omega (arith, here, rest))

-- by a NUL k bytes behind i
pub nul-before : (seg : List ℕ) (k i : ℕ) → i + k < length seg → get_or seg (i + k) 0 ≡ 0 → before_nul (drop i seg) ≤ k
nul-before seg zero i h e = let z : i + 0 ≡ i = omega arith in omega (arith, nul-here seg i (omega arith) (rw z at e))
nul-before seg (suc k) i h e =
    let z : i + suc k ≡ i + 1 + k = omega arith in
    go (eqb (get_or seg i 0) 0) refl (nul-before seg k (i + 1) (omega arith) (rw z at e))
  where
    go : (t : Bool) → eqb (get_or seg i 0) 0 ≡ t → before_nul (drop (i + 1) seg) ≤ k → before_nul (drop i seg) ≤ suc k
    go true p r = omega (arith, nul-here seg i (omega arith) (eqb-true _ _ p))
    go false p r = omega (arith, nul-later seg i (omega arith) (eqb-false _ _ p))

-- a string ends in the segment exactly if it begins before the last NUL or at it
module _ (seg : List ℕ) (ended off : ℕ) (l : LastNul seg ended) where
  pub ends : off < ended → off + before_nul (drop off seg) < length seg
  ends h =
      let e : ended - 1 ≡ off + (ended - 1 - off) = omega arith in
      omega (arith, l.within, nul-before seg (ended - 1 - off) off (omega (arith, l.within)) (rw e at (l.there (omega arith))))

  pub no_end : ended ≤ off → off ≤ length seg → off + before_nul (drop off seg) ≡ length seg
  no_end h k =
      let e : off + (length seg - off) ≡ length seg = omega arith in
      omega (
        arith,
        nul-behind seg (length seg - off) off (omega arith) (λ j g. l.none (off + j) (omega arith) (omega arith)),
        nul-none seg (off + (length seg - off)) (omega arith),
      )
