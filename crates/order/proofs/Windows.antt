-- The order of two strings, by the numbers of their bytes at one place, behind bytes that are the same.
use Prim.Native.Nat.{ℕ, ◌+◌, ◌≤◌, ◌<◌, min}
use mathlib.Core.Bool.{Bool, true, false}
use mathlib.Core.List.{List, [], ◌∷◌}
use mathlib.Core.Path.{◌≡◌, refl, ap, sym, ◌∙◌}
use native.Mathlib.Omega.{arith}
use borrow.Author.Tests.{ltb-true, ltb-false}
use lib.Dec.{ltb}
use lib.ListN.{length, get_or, take, drop, drop_of_length-le, take-append-drop}
use lib.Seq.{drop-cons, take-take, take-add}
use Rattle.format.specs.Bytes.{part}
use Rattle.format.specs.Names.{below}
use Rattle.order.specs.Same.{SameStart}
use Rattle.order.specs.BigEndian.{big_endian, BigEndian}
use Rattle.order.proofs.Sixteen.{part-long, below-behind}
use Rattle.order.proofs.BigEndianLaws.{AllBytes, bytes-part, number-one, numbers-equal, numbers-below}

-- both begin with fewer same bytes, too
pub same-fewer : {a b : List ℕ} {n : ℕ} (m : ℕ) → m ≤ n → SameStart a b n → SameStart a b m
same-fewer {a} {b} {n} m h s =
    record {
      first = omega (arith, s.first);
      second = omega (arith, s.second);
      same = sym (take-take m n a h) ∙ ap (take m) s.same ∙ take-take m n b h;
    }

-- x and y are the numbers of the n bytes of a and of b behind the first at bytes, which are the same
pub record Window (a b : List ℕ) (at n x y : ℕ) : Type 0 where
  pub start : SameStart a b at
  pub first : BigEndian a at n x
  pub second : BigEndian b at n y
  pub first-bytes : AllBytes a
  pub second-bytes : AllBytes b
  pub in-first : at + n ≤ length a
  pub in-second : at + n ≤ length b

-- n bytes of each
pub window-at : {a b : List ℕ} {at x y : ℕ} (n : ℕ) → SameStart a b at → BigEndian a at n x → BigEndian b at n y → AllBytes a → AllBytes b →
    at + n ≤ length a → at + n ≤ length b → Window a b at n x y
window-at n s f g h l i k =
    record { start = s; first = f; second = g; first-bytes = h; second-bytes = l; in-first = i; in-second = k }

-- one byte of each
pub byte-window : {a b : List ℕ} {at : ℕ} → SameStart a b at → AllBytes a → AllBytes b → at < length a → at < length b →
    Window a b at 1 (get_or a at 0) (get_or b at 0)
byte-window {a} {b} {at} s h l i k =
    record {
      start = s;
      first = number-one a at i (h at);
      second = number-one b at k (l at);
      first-bytes = h;
      second-bytes = l;
      in-first = omega arith;
      in-second = omega arith;
    }

module _ {a b : List ℕ} {at n x y : ℕ} (w : Window a b at n x y) where
  sized : length (part a at n) ≡ length (part b at n)
  sized = part-long a at n w.in-first ∙ sym (part-long b at n w.in-second)

  first_part : AllBytes (part a at n)
  first_part = bytes-part a at n w.first-bytes

  second-part : AllBytes (part b at n)
  second-part = bytes-part b at n w.second-bytes

  pub window_same : x ≡ y → SameStart a b (at + n)
  window_same e =
      let q : big_endian (part a at n) ≡ big_endian (part b at n) = sym w.first.value ∙ e ∙ w.second.value in
      let r : part a at n ≡ part b at n = numbers-equal (part a at n) (part b at n) sized first_part second-part q in
      record { first = w.in-first; second = w.in-second; same = rw (take-add at n a, take-add at n b, w.start.same, r) }

  pub window-differ : (x ≡ y → ⊥) → ltb x y ≡ below a b
  window-differ d =
      let q : big_endian (part a at n) ≡ big_endian (part b at n) → ⊥ = λ e. d (w.first.value ∙ e ∙ sym w.second.value) in
      let r = numbers-below (part a at n) (part b at n) (drop n (drop at a)) (drop n (drop at b)) sized first_part second-part q in
      let f = take-append-drop n (drop at a) in
      let g = take-append-drop n (drop at b) in
      let s = below-behind a b at w.start in
      let u = w.first.value in
      let v = w.second.value in
      cc

-- nothing is below the empty string
none_below : (xs : List ℕ) → below xs [] ≡ false
unfolding below
none_below [] = refl
none_below (x ∷ xs) = refl

-- one is a beginning of the other
pub beginning : (a b : List ℕ) → SameStart a b (min (length a) (length b)) → ltb (length a) (length b) ≡ below a b
unfolding below
beginning a b s = go (ltb (length a) (length b)) refl ∙ sym (below-behind a b n s)
  where
    n : ℕ
    n = min (length a) (length b)

    go : (t : Bool) → ltb (length a) (length b) ≡ t → ltb (length a) (length b) ≡ below (drop n a) (drop n b)
    go true p =
        let l : length a < length b = ltb-true _ _ p in
        p ∙ sym (rw (drop_of_length-le a {i = n} (omega arith), drop-cons b n 0 (omega arith)))
    go false p =
        let l : length b ≤ length a = ltb-false _ _ p in
        p ∙ sym (rw (drop_of_length-le b {i = n} (omega arith)) (none_below (drop n a)))
