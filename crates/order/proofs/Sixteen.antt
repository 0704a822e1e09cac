-- The loops over sixteen bytes: one turn of each, and what sixteen bytes decide of the whole strings.
use Prim.Native.Nat.{ℕ, zero, suc, ◌+◌, ◌-◌, ◌≤◌, ◌<◌}
use mathlib.Core.Bool.{Bool, true, false, ◌||◌, and-true, and-false, or-true, or-false}
use mathlib.Core.List.{List, [], ◌∷◌, ◌++◌}
use mathlib.Core.Path.{◌≡◌, refl, ap, sym, ◌∙◌}
use native.Mathlib.Omega.{arith}
use borrow.Author.Tests.{eq-eqb, ne_eqb}
use lib.Dec.{eqb}
use lib.ListN.{length, get_or, take, drop, length-drop, take-append-drop}
use lib.Seq.{take-add, take_all, length-take-le, drop-drop, get_or-take, get_or-drop}
use Rattle.std.specs.Prelude.{if◌then◌else◌}
use Rattle.format.specs.Bytes.{part, same_bytes, contains}
use Rattle.format.specs.Names.{below}
use Rattle.order.specs.Same.{SameStart}
use Rattle.order.proofs.OrderLaws.{same-equal}
use Rattle.order.proofs.Parts.{below-behind-start, same_parts, contains-parts, part-more}

-- how long a part is
pub part-long : (s : List ℕ) (at n : ℕ) → at + n ≤ length s → length (part s at n) ≡ n
part-long s at n h = length-take-le n (drop at s) (simp length-drop (omega arith))

-- two parts, with one byte more
module _ (a b : List ℕ) (at k : ℕ) (h : at + k < length a) (l : at + k < length b) where
  sized : length (part a at k) ≡ length (part b at k)
  sized = part-long a at k (omega arith) ∙ sym (part-long b at k (omega arith))

  pub differ-turn : (get_or a (at + k) 0 ≡ get_or b (at + k) 0 → ⊥) → false ≡ same_bytes (part a at (k + 1)) (part b at (k + 1))
  unfolding same_bytes
  differ-turn n = sym (rw (part-more a at k h, part-more b at k l, same_parts _ _ _ _ sized, ne_eqb _ _ n, and-false))

  pub same_turn : {t : Bool} → t ≡ same_bytes (part a at k) (part b at k) → get_or a (at + k) 0 ≡ get_or b (at + k) 0 →
      t ≡ same_bytes (part a at (k + 1)) (part b at (k + 1))
  unfolding same_bytes
  same_turn e n = e ∙ sym (rw (part-more a at k h, part-more b at k l, same_parts _ _ _ _ sized, eq-eqb _ _ n, and-true))

-- a part that is searched, with one byte more
module _ (x : ℕ) (s : List ℕ) (at k : ℕ) (h : at + k < length s) where
  pub found_turn : x ≡ get_or s (at + k) 0 → true ≡ contains x (part s at (k + 1))
  unfolding contains
  found_turn e = sym (rw (part-more s at k h, contains-parts, eq-eqb _ _ e, or-true))

  pub missed-turn : {t : Bool} → t ≡ contains x (part s at k) → (x ≡ get_or s (at + k) 0 → ⊥) → t ≡ contains x (part s at (k + 1))
  unfolding contains
  missed-turn e n = e ∙ sym (rw (part-more s at k h, contains-parts, ne_eqb _ _ n, or-false))

-- no byte of a string that hasn't x is x
contains-none : (x : ℕ) (xs : List ℕ) → contains x xs ≡ false → (k : ℕ) → k < length xs → get_or xs k 0 ≡ x → ⊥
unfolding contains
contains-none x [] e k h q = omega arith
contains-none x (y ∷ ys) e zero h q =
    let t : true ≡ false = rw (eq-eqb x y (sym q)) at e in
    let z : ◌≡◌ {A = ℕ} 0 1 = cc in
    omega arith
contains-none x (y ∷ ys) e (suc k) h q = go (eqb x y) e (λ f. contains-none x ys f k (omega arith) q)
  where
    go : (t : Bool) → (if t then true else contains x ys) ≡ false → (contains x ys ≡ false → ⊥) → ⊥
    go true f g = let z : ◌≡◌ {A = ℕ} 0 1 = cc in omega arith
    go false f g = g f

-- the same of a part
pub none_found : (x : ℕ) (s : List ℕ) (at n : ℕ) → at + n ≤ length s → contains x (part s at n) ≡ false → (k : ℕ) → k < n → get_or s (at + k) 0 ≡ x → ⊥
none_found x s at n h e k l q =
    contains-none x (part s at n) e k (omega (arith, part-long s at n h)) (get_or-take n (drop at s) k 0 l ∙ get_or-drop at s k 0 ∙ q)

-- both begin with no bytes, and with so many more
pub same_none : (a b : List ℕ) → SameStart a b 0
same_none a b = record { first = omega arith; second = omega arith; same = refl }

pub same_more : (a b : List ℕ) (n m : ℕ) → n + m ≤ length a → n + m ≤ length b → SameStart a b n →
    same_bytes (part a n m) (part b n m) ≡ true → SameStart a b (n + m)
same_more a b n m h l s e =
    record { first = h; second = l; same = rw (take-add n m a, take-add n m b, s.same, same-equal (part a n m) (part b n m) e) }

-- the bytes that both begin with decide nothing
module _ (a b : List ℕ) (n : ℕ) (s : SameStart a b n) where
  first : take n a ++ drop n a ≡ a
  first = take-append-drop n a

  second : take n a ++ drop n b ≡ b
  second = rw s.same (take-append-drop n b)

  pub below-behind : below a b ≡ below (drop n a) (drop n b)
  below-behind = cc (first, second, below-behind-start (drop n a) (drop n b) (take n a))

-- sixteen bytes more that are searched
module _ (x : ℕ) (s : List ℕ) (i : ℕ) (whole : Bool) (e : whole ≡ contains x (drop i s)) where
  split : whole ≡ (contains x (part s i 16) || contains x (drop (i + 16) s))
  split =
      let p = take-append-drop 16 (drop i s) in
      let q = contains-parts x (part s i 16) (drop 16 (drop i s)) in
      let d = drop-drop 16 i s in
      cc

  pub contains-found : true ≡ contains x (part s i 16) → true ≡ whole
  contains-found f = sym (split ∙ rw (← f))

  pub contains-behind : false ≡ contains x (part s i 16) → whole ≡ contains x (drop (i + 16) s)
  contains-behind f = split ∙ rw (← f)

-- what the rest of a string has, the string has
contains-rest : (x : ℕ) (s : List ℕ) (j : ℕ) → contains x (drop j s) ≡ true → contains x s ≡ true
contains-rest x s j e = ap (contains x) (sym (take-append-drop j s)) ∙ contains-parts x (take j s) (drop j s) ∙ rw (e, or-true)

-- a string whose bytes from i on decide: so do its bytes from an earlier one on
contains-earlier : (x : ℕ) (s : List ℕ) (j i : ℕ) → j ≤ i → contains x s ≡ contains x (drop i s) → contains x (drop j s) ≡ contains x s
contains-earlier x s j i h e = go (contains x (drop j s)) refl (contains x (drop i s)) refl
  where
    go : (t : Bool) → contains x (drop j s) ≡ t → (u : Bool) → contains x (drop i s) ≡ u → contains x (drop j s) ≡ contains x s
    go true p u q = p ∙ sym (contains-rest x s j p)
    go false p true q =
        let d : j + (i - j) ≡ i = omega arith in
        let r = contains-rest x (drop j s) (i - j) (rw (drop-drop (i - j) j s, d) q) in
        let z : ◌≡◌ {A = ℕ} 0 1 = cc in
        absurd (omega arith)
    go false p false q = p ∙ sym (e ∙ q)

-- the last sixteen bytes have those from i on
pub contains-last : (x : ℕ) (s : List ℕ) (i : ℕ) → 16 ≤ length s → length s - 16 ≤ i → contains x s ≡ contains x (drop i s) →
    contains x (part s (length s - 16) 16) ≡ contains x s
contains-last x s i h l e =
    rw (take_all 16 (drop (length s - 16) s) (simp length-drop (omega arith))) (contains-earlier x s (length s - 16) i l e)
