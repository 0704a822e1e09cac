-- Laws of the dataspace message.
use Prim.Native.Nat.{ℕ, zero, suc, ◌+◌, ◌-◌, ◌*◌, ◌/◌, ◌≤◌, ◌<◌}
use mathlib.Core.Bool.{Bool, true, false}
use mathlib.Core.List.{List, [], ◌∷◌, ◌++◌, append_assoc}
use mathlib.Core.Path.{◌≡◌, refl, ap, sym, ◌∙◌}
use native.Mathlib.Omega.{arith}
use native.Mathlib.Nat.{add-zero, mul_assoc, mul-one, one-le-mul, mul-le-mul_left, mul-le-mul_right, le-div_iff_mul-le, div-lt_iff_lt-mul}
use native.Mathlib.Numerals.{add-one}
use borrow.Author.Tests.{eq-eqb, ne_eqb, le-leb, lt-leb}
use lib.Dec.{eqb}
use lib.ListN.{length, drop, set, replicate, length-append}
use lib.Seq.{drop-drop, set_at}
use Rattle.format.specs.Limits.{rank_most}
use Rattle.format.specs.Bytes.{u64, to_words, contains, padded}
use Rattle.format.specs.Dataspace.{product, all_at_most}
use Rattle.walk.specs.Numbers.{Number}

-- of rank words, one after the other from a place on, those from the ith on
abbrev pub words_from : List ℕ → ℕ → ℕ → ℕ → List ℕ
words_from b from rank i = to_words (rank - i) (drop (from + 8 * i) b)

module _ (b : List ℕ) (from rank : ℕ) where
  pub words-start : to_words rank (drop from b) ≡ words_from b from rank 0
  words-start =
      let e : rank - 0 ≡ rank = omega arith in
      let f : from + 8 * 0 ≡ from = omega arith in
      rw (e, f)

  pub words-next : (i : ℕ) → i < rank → {r : ℕ} → Number b (from + 8 * i) 8 r → words_from b from rank i ≡ r ∷ words_from b from rank (i + 1)
  unfolding to_words
  words-next i h n =
      let e : rank - i ≡ suc (rank - (i + 1)) = omega arith in
      let f : from + 8 * (i + 1) ≡ from + 8 * i + 8 = omega arith in
      rw (e, f, drop-drop, drop-drop, add-zero, ← n.value)

  pub words-end : (i : ℕ) → rank ≤ i → words_from b from rank i ≡ []
  unfolding to_words
  words-end i h = let e : rank - i ≡ 0 = omega arith in rw e

-- The comparison of sizes and maxima, before the ith: `whole` is what it will have found.
module _ (b : List ℕ) (sizes maxima rank i : ℕ) (whole : Bool) (e : whole ≡ all_at_most (words_from b sizes rank i) (words_from b maxima rank i)) where
  pub maxima-end : rank ≤ i → true ≡ whole
  unfolding all_at_most
  maxima-end h = sym (e ∙ rw (words-end b sizes rank i h))

  module _ (h : i < rank) {s m : ℕ} (size : Number b (sizes + 8 * i) 8 s) (maximum : Number b (maxima + 8 * i) 8 m) where
    turn : whole ≡ all_at_most (s ∷ words_from b sizes rank (i + 1)) (m ∷ words_from b maxima rank (i + 1))
    turn = e ∙ rw (words-next b sizes rank i h size, words-next b maxima rank i h maximum)

    pub maxima-below : m < s → false ≡ whole
    unfolding all_at_most
    maxima-below k = sym (turn ∙ rw (lt-leb s m k))

    pub maxima-next : s ≤ m → whole ≡ all_at_most (words_from b sizes rank (i + 1)) (words_from b maxima rank (i + 1))
    unfolding all_at_most
    maxima-next k = turn ∙ rw (le-leb s m k)

-- The search for a size of 0, before the ith: `whole` is what it will have found.
module _ (b : List ℕ) (rank i : ℕ) (whole : Bool) (e : whole ≡ contains 0 (words_from b 8 rank i)) where
  pub zero-end : rank ≤ i → false ≡ whole
  unfolding contains
  zero-end h = sym (e ∙ rw (words-end b 8 rank i h))

  module _ (h : i < rank) {s : ℕ} (size : Number b (8 + 8 * i) 8 s) where
    pub zero-here : s ≡ 0 → true ≡ whole
    unfolding contains
    zero-here k = sym (e ∙ rw (words-next b 8 rank i h size, eq-eqb 0 s (sym k)))

    pub zero-next : (s ≡ 0 → ⊥) → whole ≡ contains 0 (words_from b 8 rank (i + 1))
    unfolding contains
    zero-next k = e ∙ rw (words-next b 8 rank i h size, ne_eqb 0 s (λ q. k (sym q)))

contains-suc : (x : ℕ) (xs : List ℕ) → contains 0 (suc x ∷ xs) ≡ contains 0 xs
unfolding contains
contains-suc x xs = rw (ne_eqb 0 (suc x) (λ q. omega (arith, q)))

-- Products. A factor 0 makes the product 0; without one it is at least 1.
pub product-zero : (xs : List ℕ) → contains 0 xs ≡ true → product xs ≡ 0
unfolding contains product
product-zero [] e = let z : ◌≡◌ {A = ℕ} 0 1 = cc in absurd (omega arith)
product-zero (zero ∷ xs) e = omega arith
product-zero ((suc x) ∷ xs) e = rw (product-zero xs (sym (contains-suc x xs) ∙ e)) (omega arith)

pub product-least : (xs : List ℕ) → contains 0 xs ≡ false → 1 ≤ product xs
unfolding contains product
product-least [] e = omega arith
product-least (zero ∷ xs) e = let z : ◌≡◌ {A = ℕ} 0 1 = cc in absurd (omega arith)
product-least ((suc x) ∷ xs) e = one-le-mul (omega arith) (product-least xs (sym (contains-suc x xs) ∙ e))

nonzero-first : (x : ℕ) (xs : List ℕ) → contains 0 (x ∷ xs) ≡ false → 1 ≤ x
unfolding contains
nonzero-first zero xs e = let z : ◌≡◌ {A = ℕ} 0 1 = cc in absurd (omega arith)
nonzero-first (suc x) xs e = omega arith

nonzero-others : (x : ℕ) (xs : List ℕ) → contains 0 (x ∷ xs) ≡ false → contains 0 xs ≡ false
unfolding contains
nonzero-others zero xs e = let z : ◌≡◌ {A = ℕ} 0 1 = cc in absurd (omega arith)
nonzero-others (suc x) xs e = sym (contains-suc x xs) ∙ e

eqb-zero : (n : ℕ) → eqb n 0 ≡ eqb 0 n
eqb-zero zero = refl
eqb-zero (suc n) = ne_eqb (suc n) 0 (λ q. omega (arith, q)) ∙ sym (ne_eqb 0 (suc n) (λ q. omega (arith, q)))

-- where a size is 0, only no bytes are filled
pub fills-none : (xs : List ℕ) (size stored : ℕ) → contains 0 xs ≡ true → eqb stored 0 ≡ eqb (product xs * size) stored
fills-none xs size stored e =
    let z : product xs * size ≡ 0 = rw (product-zero xs e) (omega arith) in
    rw z (eqb-zero stored)

-- elements larger than the bytes stored don't fill them
pub fills-larger : (xs : List ℕ) (size stored : ℕ) → contains 0 xs ≡ false → stored < size → false ≡ eqb (product xs * size) stored
fills-larger xs size stored e h = sym (ne_eqb (product xs * size) stored (λ q. omega (arith, mul-le-mul_right size (product-least xs e), q)))

-- what one turn of the product knows, by the ith size s: the whole, the product so far and the bytes stored
pub record Turn (b : List ℕ) (rank i whole sofar stored s : ℕ) : Type 0 where
  pub least : 1 ≤ s
  pub nonzero : contains 0 (words_from b 8 rank (i + 1)) ≡ false
  pub next : whole ≡ sofar * s * product (words_from b 8 rank (i + 1))
  pub within : sofar ≤ stored / s → sofar * s ≤ stored
  pub above : stored / s < sofar → false ≡ eqb whole stored

-- The product, before the ith size: the whole is what stands so far, times the sizes that are left.
module _ (b : List ℕ) (rank i : ℕ) (whole sofar stored : ℕ) (z : contains 0 (words_from b 8 rank i) ≡ false)
    (e : whole ≡ sofar * product (words_from b 8 rank i)) where
  pub product-end : rank ≤ i → eqb sofar stored ≡ eqb whole stored
  unfolding product
  product-end h = rw (e, words-end b 8 rank i h, mul-one)

  pub product-turn : i < rank → {s : ℕ} → Number b (8 + 8 * i) 8 s → Turn b rank i whole sofar stored s
  unfolding product
  product-turn h {s} size =
      let left = words_from b 8 rank (i + 1) in
      let all : contains 0 (s ∷ left) ≡ false = rw (words-next b 8 rank i h size) at z in
      let first : 1 ≤ s = nonzero-first s left all in
      let others : contains 0 left ≡ false = nonzero-others s left all in
      let next : whole ≡ sofar * s * product left = e ∙ rw (words-next b 8 rank i h size) (sym (mul_assoc sofar s (product left))) in
      record {
        least = first;
        nonzero = others;
        next = next;
        within = λ k. (le-div_iff_mul-le first).0 k;
        above = λ k.
            let l : stored < sofar * s = (div-lt_iff_lt-mul first).0 k in
            let m : sofar * s * 1 ≤ sofar * s * product left = mul-le-mul_left (sofar * s) (product-least left others) in
            sym (ne_eqb whole stored (λ q. omega (arith, next, q)));
      }

-- The words written to an array of zeros.
pub length-to_words : (n : ℕ) (b : List ℕ) → length (to_words n b) ≡ n
unfolding to_words
length-to_words zero b = refl
length-to_words (suc n) b = ap suc (length-to_words n (drop 8 b))

words_snoc : (n : ℕ) (b : List ℕ) → to_words (suc n) b ≡ to_words n b ++ (u64 b (8 * n) ∷ [])
unfolding to_words
words_snoc zero b = refl
words_snoc (suc n) b =
    let e : 8 * suc n ≡ 8 + 8 * n = omega arith in
    ap (λ (l : List ℕ). u64 b 0 ∷ l) (words_snoc n (drop 8 b)) ∙ rw (e, drop-drop)

set-padded : (ws : List ℕ) (n i v : ℕ) → length ws ≡ i → i < n → set (padded n ws) i v ≡ padded n (ws ++ (v ∷ []))
set-padded ws n i v e h =
    let f : n - length ws ≡ suc (n - length (ws ++ (v ∷ []))) = rw length-append (omega arith) in
    rw f (set_at ws 0 _ v i e ∙ sym (append_assoc ws (v ∷ []) _))

pub padded-next : (b : List ℕ) (from i : ℕ) {v : ℕ} → i < rank_most → Number b (from + 8 * i) 8 v →
    set (padded rank_most (to_words i (drop from b))) i v ≡ padded rank_most (to_words (i + 1) (drop from b))
padded-next b from i {v} h n =
    let e : u64 (drop from b) (8 * i) ≡ v = rw drop-drop (sym n.value) in
    set-padded (to_words i (drop from b)) rank_most i v (length-to_words i (drop from b)) h ∙ rw (add-one, words_snoc, e)

pub padded-start : (b : List ℕ) → replicate 32 0 ≡ padded rank_most (to_words 0 b)
unfolding rank_most to_words
padded-start b = refl

-- a rank read is one that the array holds
pub rank-held : (i rank : ℕ) → i < rank → rank ≤ rank_most → i < 32
unfolding rank_most
rank-held i rank h k = omega arith
