-- Big-endian numbers of one width are ordered as their bytes are.
use Prim.Native.Nat.{ℕ, zero, suc, ◌+◌, ◌-◌, ◌*◌, ◌^◌, ◌≤◌, ◌<◌}
use mathlib.Core.Bool.{Bool, true, false}
use mathlib.Core.List.{List, [], ◌∷◌, ◌++◌}
use mathlib.Core.Path.{◌≡◌, refl, ap, sym, ◌∙◌}
use native.Mathlib.Nat.{pow-suc, mul-le-mul_left}
use native.Mathlib.Omega.{arith}
use borrow.Author.Tests.{ltb-true, ltb-false, lt-ltb, le-ltb}
use lib.Dec.{ltb}
use lib.Pow.{pow-add}
use lib.ListN.{length, get_or, take, drop, length-append}
use Rattle.std.specs.Int.{byte_worth, sum_through}
use lib.Seq.{take_all, take-add, take-suc, drop-drop, drop-cons, get_or-drop}
use Rattle.format.specs.Bytes.{part}
use Rattle.format.specs.Names.{below}
use Rattle.order.specs.BigEndian.{big_endian, BigEndian}
use Rattle.order.proofs.OrderLaws.{below-first, below_rest, below-not}
use Rattle.order.proofs.Sixteen.{part-long}

-- every element is a byte
abbrev pub AllBytes : List ℕ → Type 0
AllBytes xs = (k : ℕ) → get_or xs k 0 < 256

bytes_take : (n : ℕ) (xs : List ℕ) → AllBytes xs → AllBytes (take n xs)
bytes_take zero xs h k = omega arith
bytes_take (suc n) [] h k = omega arith
bytes_take (suc n) (x ∷ xs) h zero = h 0
bytes_take (suc n) (x ∷ xs) h (suc k) = bytes_take n xs (λ j. h (suc j)) k

pub bytes-part : (s : List ℕ) (at n : ℕ) → AllBytes s → AllBytes (part s at n)
bytes-part s at n h = bytes_take n (drop at s) (λ k. rw (get_or-drop at s k 0) (h (at + k)))

big_endian-append : (xs ys : List ℕ) → big_endian (xs ++ ys) ≡ big_endian ys + 256 ^ length ys * big_endian xs
unfolding big_endian
big_endian-append [] ys = omega arith
big_endian-append (x ∷ xs) ys =
    omega (arith, big_endian-append xs ys, ap (λ (k : ℕ). 256 ^ k * x) (length-append xs ys), ap (λ (k : ℕ). k * x) (pow-add 256 (length xs) (length ys)))

-- a number is less than the next power
pub big_endian-less : (xs : List ℕ) → AllBytes xs → big_endian xs < 256 ^ length xs
unfolding big_endian
big_endian-less [] h = omega arith
big_endian-less (x ∷ xs) h =
    rw pow-suc (omega (arith, big_endian-less xs (λ k. h (suc k)), mul-le-mul_left (256 ^ length xs) (h 0)))

-- the number of a part
pub number_of : (s : List ℕ) (at n : ℕ) → at + n ≤ length s → AllBytes s → BigEndian s at n (big_endian (part s at n))
number_of s at n h b = record { value = refl; bound = rw (part-long s at n h) at (big_endian-less (part s at n) (bytes-part s at n b)) }

-- a byte is a number of one byte
pub number-one : (s : List ℕ) (at : ℕ) → at < length s → get_or s at 0 < 256 → BigEndian s at 1 (get_or s at 0)
unfolding big_endian
number-one s at h b = record { value = rw (drop-cons s at 0) (omega arith); bound = b }

-- a number of m bytes and one of n behind it are one of m + n
pub number-add : (m n : ℕ) {s : List ℕ} {at x y : ℕ} → BigEndian s at m x → BigEndian s (at + m) n y → at + m + n ≤ length s →
    BigEndian s at (m + n) (y + 256 ^ n * x)
number-add m n {s} {at} {x} {y} p q h =
    let e : length (part s (at + m) n) ≡ n = part-long s (at + m) n h in
    record {
      value = rw (take-add, drop-drop, big_endian-append, e, ← p.value, ← q.value);
      bound = rw pow-add (omega (arith, q.bound, mul-le-mul_left (256 ^ n) p.bound));
    }

-- what the library's byte i is worth
worth : (i b : ℕ) → byte_worth i b ≡ 256 ^ i * b
worth zero b = omega arith
worth (suc i) b = omega arith

-- its number of the first bytes of a list, with m bytes behind them
sum-of-bytes : (n m : ℕ) (bs : List ℕ) → n < length bs → sum_through (λ i. byte_worth (m + n - i) (get_or bs i 0)) n ≡ 256 ^ m * big_endian (take (suc n) bs)
unfolding big_endian
sum-of-bytes zero m [] h = absurd (omega arith)
sum-of-bytes zero m (b ∷ bs) h = let e : m + 0 - 0 ≡ m = omega arith in rw (e, worth m b) (omega arith)
sum-of-bytes (suc n) m bs h =
    let e : m + suc n ≡ suc m + n = omega arith in
    let f : m + suc n - suc n ≡ m = omega arith in
    let g = get_or bs (suc n) 0 in
    let sum = ap (λ (t : ℕ). sum_through (λ i. byte_worth (t - i) (get_or bs i 0)) n) e ∙ sum-of-bytes n (suc m) bs (omega arith) in
    rw (sum, f, worth m g, take-suc bs (suc n) 0 h, big_endian-append (take (suc n) bs) (g ∷ []), pow-suc 256 m) (omega arith)

-- a number read from a slice of a list
pub number-of-slice : (n : ℕ) (s bs : List ℕ) (at r : ℕ) → at + suc n ≤ length s → bs ≡ take (at + suc n - at) (drop at s) → r < 256 ^ suc n →
    r ≡ sum_through (λ i. byte_worth (0 + n - i) (get_or bs i 0)) n → BigEndian s at (suc n) r
number-of-slice n s bs at r h same bound is =
    let e : at + suc n - at ≡ suc n = omega arith in
    let p : bs ≡ part s at (suc n) = same ∙ ap (λ (k : ℕ). take k (drop at s)) e in
    let l : length bs ≡ suc n = ap length p ∙ part-long s at (suc n) h in
    let all : take (suc n) bs ≡ part s at (suc n) = take_all (suc n) bs (omega arith) ∙ p in
    let sum = sum-of-bytes n 0 bs (omega arith) in
    record { value = is ∙ sum ∙ rw all (omega arith); bound = bound }

-- the larger digit makes the larger number
higher : (w x y u v : ℕ) → u < w → x < y → w * x + u < w * y + v
higher w x y u v h l = omega (arith, h, mul-le-mul_left w l)

pub ltb-behind : (k u v : ℕ) → ltb u v ≡ ltb (k + u) (k + v)
ltb-behind k u v = go (ltb u v) refl
  where
    go : (t : Bool) → ltb u v ≡ t → ltb u v ≡ ltb (k + u) (k + v)
    go true p = p ∙ sym (lt-ltb (k + u) (k + v) (omega (arith, ltb-true u v p)))
    go false p = p ∙ sym (le-ltb (k + u) (k + v) (omega (arith, ltb-false u v p)))

-- two numbers with one digit more each
module _ (w x y u v : ℕ) (h : u < w) (l : v < w) where
  digit-same : w * x + u ≡ w * y + v → x ≡ y
  digit-same e = go (ltb x y) (ltb y x) refl refl
    where
      go : (t f : Bool) → ltb x y ≡ t → ltb y x ≡ f → x ≡ y
      go true f p q = absurd (omega (arith, e, higher w x y u v h (ltb-true x y p)))
      go false true p q = absurd (omega (arith, e, higher w y x v u l (ltb-true y x q)))
      go false false p q = omega (arith, ltb-false x y p, ltb-false y x q)

  pub digit-below : (xs ys : List ℕ) → ((u ≡ v → ⊥) → below xs ys ≡ ltb u v) → (w * x + u ≡ w * y + v → ⊥) →
      below (x ∷ xs) (y ∷ ys) ≡ ltb (w * x + u) (w * y + v)
  digit-below xs ys r d = go (ltb x y) (ltb y x) refl refl
    where
      go : (t f : Bool) → ltb x y ≡ t → ltb y x ≡ f → below (x ∷ xs) (y ∷ ys) ≡ ltb (w * x + u) (w * y + v)
      go true f p q = below-first x y xs ys (ltb-true x y p) ∙ sym (lt-ltb (w * x + u) (w * y + v) (higher w x y u v h (ltb-true x y p)))
      go false true p q =
          below-not x y xs ys (ltb-true y x q) ∙ sym (le-ltb (w * x + u) (w * y + v) (omega (arith, higher w y x v u l (ltb-true y x q))))
      go false false p q =
          let e : x ≡ y = omega (arith, ltb-false x y p, ltb-false y x q) in
          let n : u ≡ v → ⊥ = λ k. d (cc) in
          below_rest x y xs ys e ∙ r n ∙ ltb-behind (w * x) u v ∙ ap (λ (k : ℕ). ltb (w * x + u) (w * k + v)) e

-- numbers of one width
pub numbers-equal : (xs ys : List ℕ) → length xs ≡ length ys → AllBytes xs → AllBytes ys → big_endian xs ≡ big_endian ys → xs ≡ ys
unfolding big_endian
numbers-equal [] [] e h l q = refl
numbers-equal [] (y ∷ ys) e h l q = absurd (omega arith)
numbers-equal (x ∷ xs) [] e h l q = absurd (omega arith)
numbers-equal (x ∷ xs) (y ∷ ys) e h l q =
    let k : length xs ≡ length ys = omega arith in
    let w : 256 ^ length ys * x + big_endian xs ≡ 256 ^ length ys * y + big_endian ys = rw k at q in
    let m : big_endian xs < 256 ^ length ys = rw k at (big_endian-less xs (λ i. h (suc i))) in
    let d : x ≡ y = digit-same (256 ^ length ys) x y (big_endian xs) (big_endian ys) m (big_endian-less ys (λ i. l (suc i))) w in
    let c : 256 ^ length ys * x ≡ 256 ^ length ys * y = ap (λ (z : ℕ). 256 ^ length ys * z) d in
    let r : xs ≡ ys = numbers-equal xs ys k (λ i. h (suc i)) (λ i. l (suc i)) (omega (arith, w, c)) in
    cc

pub numbers-below : (xs ys vs ws : List ℕ) → length xs ≡ length ys → AllBytes xs → AllBytes ys → (big_endian xs ≡ big_endian ys → ⊥) →
    below (xs ++ vs) (ys ++ ws) ≡ ltb (big_endian xs) (big_endian ys)
unfolding big_endian
numbers-below [] [] vs ws e h l d = absurd (d refl)
numbers-below [] (y ∷ ys) vs ws e h l d = absurd (omega arith)
numbers-below (x ∷ xs) [] vs ws e h l d = absurd (omega arith)
numbers-below (x ∷ xs) (y ∷ ys) vs ws e h l d =
    let k : length xs ≡ length ys = omega arith in
    let n : 256 ^ length ys * x + big_endian xs ≡ 256 ^ length ys * y + big_endian ys → ⊥ = rw k at d in
    let m : big_endian xs < 256 ^ length ys = rw k at (big_endian-less xs (λ i. h (suc i))) in
    rw k
    (digit-below (256 ^ length ys) x y (big_endian xs) (big_endian ys) m (big_endian-less ys (λ i. l (suc i))) (xs ++ vs) (ys ++ ws)
    (numbers-below xs ys vs ws k (λ i. h (suc i)) (λ i. l (suc i))) n)
