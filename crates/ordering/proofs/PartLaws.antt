-- A word put among those of a part of a list, as the whole list has it.
use Prim.Native.Nat.{ℕ, ◌+◌, ◌-◌, ◌≤◌, ◌<◌}
use mathlib.Core.List.{List}
use mathlib.Core.Logic.{⊎_elim}
use mathlib.Core.Path.{◌≡◌, ap, ◌∙◌}
use native.Mathlib.Omega.{arith}
use native.Mathlib.Nat.{zero-add}
use borrow.Rule.Slice.PartMut.{mid_of, put_mid, same_len_mid}
use lib.ListN.{length, get_or, take, drop}
use lib.Seq.{get_or-take, get_or-drop, length-take-le}
use Rattle.std.proofs.lemmas.List.{get_or_append_left, get_or-append_right, length-drop}
use Rattle.ordering.specs.Order.{Inserted}
use Rattle.ordering.proofs.OrderLaws.{below_or_not}

-- the k words from base on, and what stands in their place
module _ (ws part : List ℕ) (base k : ℕ) (fits : base + k ≤ length ws) (long : length part ≡ k) where
  abbrev whole : List ℕ
  whole = put_mid base k ws part

  front : length (take base ws) ≡ base
  front = length-take-le base ws (omega arith)

  below : (i : ℕ) → i < base → get_or whole i 0 ≡ get_or ws i 0
  below i h = get_or_append_left (take base ws) _ 0 i (rw front h) ∙ get_or-take base ws i 0 h

  inside : (i : ℕ) → i < k → get_or whole (base + i) 0 ≡ get_or part i 0
  inside i h =
      let e : base + i - base ≡ i = omega arith in
      get_or-append_right (take base ws) _ base (base + i) 0 front (omega arith) ∙ rw e (get_or_append_left part _ 0 i (rw long h))

  rest : (i : ℕ) → base + k ≤ i → get_or whole i 0 ≡ get_or ws i 0
  rest i h =
      let e : base + (k + (i - base - k)) ≡ i = omega arith in
      get_or-append_right (take base ws) _ base i 0 front (omega arith)
      ∙ get_or-append_right part _ k (i - base) 0 long (omega arith)
      ∙ get_or-drop k (drop base ws) (i - base - k) 0 ∙ get_or-drop base ws (k + (i - base - k)) 0 ∙ ap (λ (j : ℕ). get_or ws j 0) e

-- the words of the part before
part-word : (ws : List ℕ) (base k i : ℕ) → i < k → get_or (mid_of base k ws) i 0 ≡ get_or ws (base + i) 0
part-word ws base k i h = get_or-take k (drop base ws) i 0 h ∙ get_or-drop base ws i 0

module _ (ws part : List ℕ) (base n k place v : ℕ) (is : k ≡ n + 1) (fits : base + n < length ws) (few : place ≤ n) where
  held : length (mid_of base k ws) ≡ k
  held = length-take-le k (drop base ws) (rw (length-drop base ws) (omega arith))

  pub inserted-part : Inserted (mid_of base k ws) 0 (length (mid_of base k ws) - 1) place v part → Inserted ws base n place v (put_mid base k ws part)
  inserted-part i = record {
    below = low;
    here = inside ws part base k (omega arith) long place (omega arith) ∙ (simp zero-add at i.here);
    above = λ j h l.
        inside ws part base k (omega arith) long (j + 1) (omega arith)
        ∙ (simp zero-add at (i.above j h (omega (arith, held))))
        ∙ part-word ws base k j (omega arith);
    rest = λ j h. rest ws part base k (omega arith) long j (omega arith);
    long = same_len_mid base k ws part i.long;
  }
    where
      long : length part ≡ k
      long = i.long ∙ held

      low : (j : ℕ) → j < base + place → get_or (put_mid base k ws part) j 0 ≡ get_or ws j 0
      low j h = ⊎_elim (λ (l : j < base). below ws part base k (omega arith) long j l) (λ (l : base ≤ j). moved (j - base) (omega arith)) (below_or_not j base)
        where
          moved : (m : ℕ) → j ≡ base + m → get_or (put_mid base k ws part) j 0 ≡ get_or ws j 0
          moved m e =
              rw e (inside ws part base k (omega arith) long m (omega arith) ∙ i.below m (omega arith) ∙ part-word ws base k m (omega arith))
