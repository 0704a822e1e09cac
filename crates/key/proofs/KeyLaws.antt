-- Laws of the keys of a node: the walk over them, turn by turn, and the strings that they are.
use Prim.Native.Nat.{ℕ, zero, suc, ◌+◌, ◌*◌, ◌-◌, ◌≤◌, ◌<◌, min}
use mathlib.Core.Bool.{Bool, true, false, not}
use mathlib.Core.List.{List, [], ◌∷◌}
use mathlib.Core.Path.{◌≡◌, refl, ap, sym, ◌∙◌}
use native.Mathlib.Omega.{arith}
use borrow.Author.Tests.{ltb-true, leb-true, leb-false}
use lib.Dec.{ltb, leb, eqb}
use lib.ListN.{length, take, drop}
use Rattle.format.specs.Limits.{name_most}
use Rattle.std.specs.Prelude.{if◌then◌else◌, Ok, Err}
use Rattle.format.specs.Bytes.{part, u64}
use Rattle.format.specs.Blocks.{Block}
use Rattle.format.specs.Result.{value}
use Rattle.format.specs.Walk.{fault as fault_at, located, ret, ◌>>=◌}
use Rattle.format.specs.Heap.{Heap}
use Rattle.format.specs.Names.{Text, text, fault, outside, no_nul, fault_number, read_text, before_nul, string_at, key_text, below}
use Rattle.format.specs.Tree.{keys_walk}
use Rattle.laws.proofs.Bind.{ret-bind, refuse-bind}
use Rattle.laws.proofs.Checks.{both-done}
use Rattle.laws.proofs.Results.{located-done}
use Rattle.walk.proofs.Parts.{drop-part, part-part}
use Rattle.heap.specs.Segment.{heap_with}
use Rattle.names.specs.Texts.{fault_of, CheckedAs}
use Rattle.nul.specs.Nul.{NulWithin}
use Rattle.names.specs.declared.NameFault.{NameFault}
use Rattle.range.proofs.FirstBytes.{name_at, string-inside}
use Rattle.key.specs.Key.{KeysAre, KeyAt, KeyIs}

-- a key is read from the segment alone
key-segment : (h : Heap) (seg : List ℕ) (off : ℕ) → h.segment ≡ seg → (free : List Block) → key_text h off ≡ key_text (heap_with seg free) off
unfolding key_text
key-segment h seg off e free = rw e

-- a key that is a string begins in the segment
key-inside : (seg : List ℕ) (free : List Block) (off : ℕ) (t : List ℕ) → text t ≡ key_text (heap_with seg free) off → off < length seg
unfolding key_text
key-inside seg free off t e = go (ltb off (length seg)) refl e
  where
    go : (p : Bool) → ltb off (length seg) ≡ p → text t ≡ (if not p then fault outside else
        if not (ltb (off + before_nul (drop off seg)) (length seg)) then fault no_nul else text (string_at seg off)) → off < length seg
    go true q f = ltb-true off (length seg) q
    go false q f = let z : ◌≡◌ {A = ℕ} 0 1 = cc in absurd (omega arith)

-- a string that is longer than another is below it or not by its first bytes
below-cut : (s t : List ℕ) (n : ℕ) → length t < n → below (take n s) t ≡ below s t
unfolding below
below-cut s t zero l = absurd (omega arith)
below-cut [] t (suc n) l = refl
below-cut (x ∷ s) [] (suc n) l = refl
below-cut (x ∷ s) (y ∷ t) (suc n) l =
    let k : length t < n = omega arith in
    ap (λ (r : Bool). if ltb x y then true else if eqb x y then r else false) (below-cut s t n k)

-- the bytes before the NUL, cut
cut-before : (s t : List ℕ) (b n : ℕ) → length t < n → below (take (min b n) s) t ≡ below (take b s) t
cut-before s t b n l = go (leb b n) refl
  where
    go : (z : Bool) → leb b n ≡ z → below (take (min b n) s) t ≡ below (take b s) t
    go true p = let h = leb-true b n p in let e : min b n ≡ b = omega arith in rw e
    go false p =
        let h = leb-false b n p in
        let e : min b n ≡ n = omega arith in
        rw e (below-cut s t n l ∙ sym (below-cut s t b (omega arith)))

text-value : (x : Text) (t : List ℕ) → read_text x ≡ value t → x ≡ text t
text-value (text s) t e = let f : s ≡ t = cc in ap text f
text-value (fault f) t e = let z : ◌≡◌ {A = ℕ} 0 1 = cc in absurd (omega arith)

-- the first key of n + 1, then the others
keys-more : (h : Heap) (n : ℕ) (im : List ℕ) (from m : ℕ) → 8 ≤ m →
    keys_walk h (suc n) from (part im from m) ≡ located from (read_text (key_text h (u64 im from))) >>= λ _. keys_walk h n (from + 16)
    (part im (from + 16) (m - 16))
unfolding keys_walk
keys-more h n im from m l =
    let z : from + 0 ≡ from = omega arith in
    rw (drop-part im from m 16, part-part im from m 0 8 l, z)

-- The loop over the keys: the walk of all n is the walk of those from the ith on.
abbrev pub KeysFrom : List ℕ → List ℕ → ℕ → ℕ → ℕ → Type 0
KeysFrom im seg from n i =
    (h : Heap) (m : ℕ) → h.segment ≡ seg → 16 * n ≤ m + 8 → from + m ≤ length im →
    keys_walk h n from (part im from m) ≡ keys_walk h (n - i) (from + 16 * i) (part im (from + 16 * i) (m - 16 * i))

pub keys-start : (im seg : List ℕ) (from n : ℕ) → KeysFrom im seg from n 0
keys-start im seg from n h m e k l =
    let a : n - 0 ≡ n = omega arith in
    let b : from + 16 * 0 ≡ from = omega arith in
    let d : m - 16 * 0 ≡ m = omega arith in
    rw (a, b, d)

pub keys-end : (im seg : List ℕ) (from n i : ℕ) → KeysFrom im seg from n i → n ≤ i → KeysAre im seg from n (Ok tt)
unfolding keys_walk
keys-end im seg from n i f g h m e k l =
    let a : n - i ≡ 0 = omega arith in
    sym (f h m e k l ∙ rw a)

module _ (im seg : List ℕ) (from n i : ℕ) (f : KeysFrom im seg from n i) (g : i < n) (off : ℕ) (o : off ≡ u64 im (from + 16 * i)) where
  -- the ith key, then the others
  here : (h : Heap) (m : ℕ) → h.segment ≡ seg → 16 * n ≤ m + 8 → from + m ≤ length im →
      keys_walk h n from (part im from m) ≡ located (from + 16 * i) (read_text (key_text (heap_with seg []) off)) >>= λ _. keys_walk h (n - (i + 1))
      (from + 16 * (i + 1)) (part im (from + 16 * (i + 1)) (m - 16 * (i + 1)))
  here h m e k l =
      let a : n - i ≡ suc (n - (i + 1)) = omega arith in
      let b : from + 16 * i + 16 ≡ from + 16 * (i + 1) = omega arith in
      let d : m - 16 * i - 16 ≡ m - 16 * (i + 1) = omega arith in
      f h m e k l
      ∙ ap (λ (j : ℕ). keys_walk h j (from + 16 * i) (part im (from + 16 * i) (m - 16 * i))) a
      ∙ keys-more h (n - (i + 1)) im (from + 16 * i) (m - 16 * i) (omega arith)
      ∙ rw (← o, key-segment h seg off e [], b, d)

  pub keys-fault : {r : _} (x : NameFault) → r ≡ Err x → ((free : List Block) → CheckedAs r (key_text (heap_with seg free) off)) →
      KeysAre im seg from n (Err (fault_at (fault_number (fault_of x)) (from + 16 * i)))
  keys-fault x p t h m e k l =
      let u : CheckedAs (Err x) (key_text (heap_with seg []) off) = rw p at (t []) in
      sym (here h m e k l ∙ rw (← u) (refuse-bind (fault_at _ (from + 16 * i)) _))

  pub keys-next : {r : _} → r ≡ Ok tt → ((free : List Block) → CheckedAs r (key_text (heap_with seg free) off)) → KeysFrom im seg from n (i + 1)
  keys-next p t h m e k l =
      let u : CheckedAs (Ok tt) (key_text (heap_with seg []) off) = rw p at (t []) in
      here h m e k l ∙ rw (← u.1) (ret-bind _ _)

-- where the walk of n keys is done, each of them is a string of the segment
pub keys-sound : (h : Heap) (im seg : List ℕ) (n from m : ℕ) → keys_walk h n from (part im from m) ≡ ret tt → h.segment ≡ seg → 16 * n ≤ m + 8 →
    from + m ≤ length im → (i : ℕ) → i < n → KeyAt im seg (from + 16 * i)
keys-sound h im seg zero from m w e k l i g = absurd (omega arith)
keys-sound h im seg (suc n) from m w e k l zero g =
    let d = both-done _ _ tt (sym (keys-more h n im from m (omega arith)) ∙ w) in
    let z : from + 16 * 0 ≡ from = omega arith in
    rw z record { inside = omega arith; sound = (d.0, sym (key-segment h seg (u64 im from) e []) ∙ text-value _ d.0 (located-done _ d.0 from d.1)) }
keys-sound h im seg (suc n) from m w e k l (suc i) g =
    let d = both-done _ _ tt (sym (keys-more h n im from m (omega arith)) ∙ w) in
    let z : from + 16 * suc i ≡ from + 16 + 16 * i = omega arith in
    rw z (keys-sound h im seg n (from + 16) (m - 16) d.2 e (omega arith) (omega arith) i (omega arith))

-- A key that is known to be a string, as far as it was read.
module _ (im seg : List ℕ) (at off : ℕ) (k : KeyAt im seg at) (o : off ≡ u64 im at) where
  pub key-starts : off < length seg
  key-starts = key-inside seg [] off k.sound.0 (rw o (sym k.sound.1))

  pub key-cut : (end : ℕ) → NulWithin seg off (name_most + 1) end → KeyIs im seg at (name_at seg off (end - off))
  unfolding string_at
  key-cut end n =
      let e : end - off ≡ min (before_nul (drop off seg)) (name_most + 1) = omega (arith, n.value) in
      record {
        inside = string-inside seg off (end - off) (omega (arith, n.value, n.inside));
        alike = λ t l. rw (e, ← o) (cut-before (drop off seg) t (before_nul (drop off seg)) (name_most + 1) (omega arith));
      }
