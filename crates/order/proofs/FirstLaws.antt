-- The number of a string's first bytes: how it is read, and that it decides the order where two differ.
use Prim.Native.Nat.{ℕ, zero, suc, ◌+◌, ◌*◌, ◌-◌, ◌/◌, ◌%◌, ◌^◌, ◌≤◌, ◌<◌}
use mathlib.Core.List.{List, [], ◌∷◌}
use mathlib.Core.Path.{◌≡◌, refl, ap, sym, ◌∙◌}
use native.Mathlib.Nat.{pow-suc, mul-zero, mul-le-mul_left, mod-eq_of_lt, div-eq_of_lt, add-mul-div_right, zero-add, suc-add}
use native.Mathlib.Omega.{arith}
use borrow.Author.Tests.{lt-ltb, le-ltb}
use lib.Dec.{ltb}
use lib.Pow.{pow-add, pow_mono}
use lib.ListN.{length, get_or, take, drop, drop_of_length-le, get_or-eq_default}
use lib.Seq.{length-take-le, take-take, drop-drop, get_or-take, get_or-drop}
use Rattle.format.specs.Bytes.{part}
use Rattle.format.specs.Names.{below}
use Rattle.order.specs.BigEndian.{big_endian, BigEndian, first_number}
use Rattle.order.proofs.Sixteen.{part-long}
use Rattle.order.proofs.BigEndianLaws.{AllBytes, bytes-part, big_endian-less, number_of, number-add, ltb-behind, digit-below}

-- it is less than the next power
first-less : (n : ℕ) (s : List ℕ) → AllBytes s → first_number n s < 256 ^ n
unfolding first_number
first-less zero s h = omega arith
first-less (suc n) [] h = rw pow-suc (omega (arith, first-less n [] h))
first-less (suc n) (x ∷ xs) h = rw pow-suc (omega (arith, first-less n xs (λ k. h (suc k)), mul-le-mul_left (256 ^ n) (h 0)))

-- powers of 256 are powers of 2
pub bytes_bits : (k : ℕ) → 256 ^ k ≡ 2 ^ (8 * k)
bytes_bits zero = refl
bytes_bits (suc k) =
    let e : 8 * suc k ≡ 8 * k + 8 = omega arith in
    pow-suc 256 k ∙ ap (λ (p : ℕ). p * 256) (bytes_bits k) ∙ sym (pow-add 2 (8 * k) 8) ∙ ap (λ (m : ℕ). 2 ^ m) (sym e)

-- eight bytes fit
pub first_fits : (k : ℕ) (s : List ℕ) → AllBytes s → k < 8 → 256 * first_number k s + 256 ≤ 2 ^ 64
first_fits k s h l =
    let m : 2 ^ (8 * suc k) ≤ 2 ^ 64 = pow_mono {i = 8 * suc k} {j = 64} (omega arith) in
    omega (arith, first-less k s h, pow-suc 256 k, bytes_bits (suc k), m)

-- none, and one byte more
pub first-none : (s : List ℕ) → first_number 0 s ≡ 0
unfolding first_number
first-none s = refl

pub first_more : (k : ℕ) (s : List ℕ) → first_number (suc k) s ≡ 256 * first_number k s + get_or s k 0
unfolding first_number
first_more zero [] = refl
first_more zero (x ∷ xs) = omega arith
first_more (suc k) [] = refl
first_more (suc k) (x ∷ xs) = omega (arith, first_more k xs, ap (λ (p : ℕ). p * x) (pow-suc 256 k))

-- a string of n bytes or more, and one of n or fewer
pub first-long : (n : ℕ) (s : List ℕ) → n ≤ length s → first_number n s ≡ big_endian (take n s)
unfolding first_number big_endian
first-long zero s h = refl
first-long (suc n) [] h = absurd (omega arith)
first-long (suc n) (x ∷ xs) h = rw (length-take-le n xs (omega arith), first-long n xs (omega arith))

first-empty : (n : ℕ) → first_number n [] ≡ 0
unfolding first_number
first-empty zero = refl
first-empty (suc n) = refl

spread : (p q r x b f : ℕ) → r ≡ p * q → f ≡ p * b → r * x + f ≡ p * (q * x + b)
spread p q r x b f e g = omega (arith, ap (λ (k : ℕ). k * x) e, g)

pub first_short : (n : ℕ) (s : List ℕ) → length s ≤ n → first_number n s ≡ 256 ^ (n - length s) * big_endian s
unfolding first_number big_endian
first_short n [] h = first-empty n ∙ sym (mul-zero (256 ^ (n - 0)))
first_short zero (x ∷ xs) h = absurd (omega arith)
first_short (suc n) (x ∷ xs) h =
    let l = length xs in
    let k : n ≡ n - l + l = omega arith in
    let e : 256 ^ n ≡ 256 ^ (n - l) * 256 ^ l = ap (λ (m : ℕ). 256 ^ m) k ∙ pow-add 256 (n - l) l in
    let d : suc n - suc l ≡ n - l = omega arith in
    spread (256 ^ (n - l)) (256 ^ l) (256 ^ n) x (big_endian xs) (first_number n xs) e (first_short n xs (omega arith))
    ∙ ap (λ (m : ℕ). 256 ^ m * (256 ^ l * x + big_endian xs)) (sym d)

-- two strings with different numbers
pub first-decides : (n : ℕ) (a b : List ℕ) → AllBytes a → AllBytes b → (first_number n a ≡ first_number n b → ⊥) →
    ltb (first_number n a) (first_number n b) ≡ below a b
unfolding first_number below
first-decides zero a b h l d = absurd (d refl)
first-decides (suc n) [] [] h l d = absurd (d refl)
first-decides (suc n) [] (y ∷ ys) h l d = lt-ltb 0 (256 ^ n * y + first_number n ys) (omega (arith, d))
first-decides (suc n) (x ∷ xs) [] h l d = le-ltb (256 ^ n * x + first_number n xs) 0 (omega arith)
first-decides (suc n) (x ∷ xs) (y ∷ ys) h l d =
    sym (digit-below (256 ^ n) x y (first_number n xs) (first_number n ys) (first-less n xs (λ k. h (suc k))) (first-less n ys (λ k. l (suc k))) xs ys
    (λ e. sym (first-decides n xs ys (λ k. h (suc k)) (λ k. l (suc k)) e)) d)

-- a byte of a part, and behind it none
pub part-byte : (s : List ℕ) (at n k : ℕ) → k < n → get_or s (at + k) 0 ≡ get_or (part s at n) k 0
part-byte s at n k h = sym (get_or-take n (drop at s) k 0 h ∙ get_or-drop at s k 0)

take-most : (n : ℕ) (l : List ℕ) → length (take n l) ≤ n
take-most zero l = omega arith
take-most (suc n) [] = omega arith
take-most (suc n) (x ∷ l) = omega (arith, take-most n l)

pub part_end : (s : List ℕ) (at n k : ℕ) → n ≤ k → 0 ≡ get_or (part s at n) k 0
part_end s at n k h = sym (get_or-eq_default (part s at n) 0 {n = k} (omega (arith, take-most n (drop at s))))

-- the number of n bytes of a string, by the eight that were read
module _ (s : List ℕ) (at n : ℕ) where
  pub read_none : n ≡ 0 → 0 ≡ first_number 8 (part s at n)
  read_none e = rw e (sym (first-empty 8))

  module _ {x : ℕ} (r : BigEndian s at 8 x) where
    pub read-long : 8 ≤ n → at + n ≤ length s → x ≡ first_number 8 (part s at n)
    read-long h l =
        r.value
        ∙ sym (first-long 8 (part s at n) (omega (arith, part-long s at n l)) ∙ ap big_endian (take-take 8 n (drop at s) h))

    -- fewer than eight: those behind are shifted out
    module _ (h : n < 8) (l : at + 8 ≤ length s) (bytes : AllBytes s) where
      -- so much is shifted
      abbrev p : ℕ
      p = 256 ^ (8 - n)

      abbrev u : ℕ
      u = big_endian (part s at n)

      abbrev v : ℕ
      v = big_endian (part s (at + n) (8 - n))

      shift : 2 ^ (64 - 8 * n) ≡ p
      shift = let e : 64 - 8 * n ≡ 8 * (8 - n) = omega arith in ap (λ (m : ℕ). 2 ^ m) e ∙ sym (bytes_bits (8 - n))

      small : v < p
      small = rw (part-long s (at + n) (8 - n) (omega arith)) at (big_endian-less (part s (at + n) (8 - n)) (bytes-part s (at + n) (8 - n) bytes))

      split : x ≡ v + p * u
      split =
          let first : BigEndian s at n u = number_of s at n (omega arith) bytes in
          let second : BigEndian s (at + n) (8 - n) v = number_of s (at + n) (8 - n) (omega arith) bytes in
          let e : n + (8 - n) ≡ 8 = omega arith in
          let q = (number-add n (8 - n) first second (omega arith)).value in
          r.value ∙ sym (rw e at q)

      high : x / p ≡ u
      high =
          let e : v + p * u ≡ v + u * p = omega arith in
          ap (λ (y : ℕ). y / p) (split ∙ e) ∙ add-mul-div_right v u (omega (arith, small)) ∙ ap (λ (y : ℕ). y + u) (div-eq_of_lt small) ∙ zero-add u

      pub read_short : x / 2 ^ (64 - 8 * n) * 2 ^ (64 - 8 * n) % 2 ^ 64 ≡ first_number 8 (part s at n)
      read_short =
          let whole : x / 2 ^ (64 - 8 * n) * 2 ^ (64 - 8 * n) ≡ u * p = rw (shift, high) in
          let size = part-long s at n (omega arith) in
          let fits : u * p < 2 ^ 64 = omega (arith, split, r.bound) in
          let e : u * p ≡ p * u = omega arith in
          ap (λ (y : ℕ). y % 2 ^ 64) whole ∙ mod-eq_of_lt fits ∙ e
          ∙ sym (first_short 8 (part s at n) (omega (arith, size)) ∙ ap (λ (m : ℕ). 256 ^ (8 - m) * u) size)

-- the number of m bytes and of n behind them
first-split : (m n : ℕ) (s : List ℕ) → first_number (m + n) s ≡ 256 ^ n * first_number m s + first_number n (drop m s)
unfolding first_number
first-split zero n s =
    let z : first_number n s ≡ 256 ^ n * 0 + first_number n s = omega arith in
    ap (λ (j : ℕ). first_number j s) (zero-add n) ∙ z
first-split (suc m) n [] =
    let z : 256 ^ n * 0 + 0 ≡ 0 = omega arith in
    first-empty (suc m + n) ∙ sym (ap (λ (y : ℕ). 256 ^ n * 0 + y) (first-empty n) ∙ z)
first-split (suc m) n (x ∷ xs) =
    let z : 256 ^ (m + n) * x + first_number (m + n) xs ≡ 256 ^ n * (256 ^ m * x + first_number m xs) + first_number n (drop m xs) =
    omega (arith, first-split m n xs, ap (λ (p : ℕ). p * x) (pow-add 256 m n)) in
    ap (λ (j : ℕ). first_number j (x ∷ xs)) (suc-add m n) ∙ z

-- where the numbers of the first eight bytes are equal and those of the next eight differ, these decide
pub second-decides : (a b : List ℕ) → AllBytes a → AllBytes b → first_number 8 a ≡ first_number 8 b →
    (first_number 8 (drop 8 a) ≡ first_number 8 (drop 8 b) → ⊥) → ltb (first_number 8 (drop 8 a)) (first_number 8 (drop 8 b)) ≡ below a b
second-decides a b h l e d =
    let p = first-split 8 8 a in
    let q = first-split 8 8 b in
    let f = first_number 8 a in
    let whole = first-decides 16 a b h l (λ w. d (omega (arith, w, p, q, e))) in
    ltb-behind (256 ^ 8 * f) (first_number 8 (drop 8 a)) (first_number 8 (drop 8 b)) ∙ rw (p, q, ← e) at whole

-- the next eight of n bytes of a string
pub second_none : (s : List ℕ) (at n : ℕ) → n ≤ 8 → 0 ≡ first_number 8 (drop 8 (part s at n))
second_none s at n h =
    rw (drop_of_length-le (part s at n) {i = 8} (omega (arith, h, take-most n (drop at s)))) (sym (first-empty 8))

take-empty : (k : ℕ) → ◌≡◌ {A = List ℕ} [] (take k [])
take-empty zero = refl
take-empty (suc k) = refl

drop-take : (m k : ℕ) (l : List ℕ) → drop m (take (m + k) l) ≡ take k (drop m l)
drop-take zero k l = ap (λ (j : ℕ). take j l) (zero-add k)
drop-take (suc m) k [] = ap (λ (j : ℕ). drop (suc m) (take {A = ℕ} j [])) (suc-add m k) ∙ take-empty k
drop-take (suc m) k (x ∷ l) = ap (λ (j : ℕ). drop (suc m) (take j (x ∷ l))) (suc-add m k) ∙ drop-take m k l

pub second-some : (s : List ℕ) (at n : ℕ) {x : ℕ} → 8 < n → x ≡ first_number 8 (part s (at + 8) (n - 8)) → x ≡ first_number 8 (drop 8 (part s at n))
second-some s at n h e =
    let k : 8 + (n - 8) ≡ n = omega arith in
    e ∙ ap (first_number 8) (sym (rw (k, drop-drop 8 at s) at (drop-take 8 (n - 8) (drop at s))))
