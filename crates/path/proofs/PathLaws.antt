-- Laws of a path's form: one turn of the search for a component's end, one component of many, and the tests of a whole path.
use Prim.Native.Nat.{ℕ, zero, suc, ◌+◌, ◌-◌, ◌≤◌, ◌<◌}
use mathlib.Core.Bool.{Bool, true, false}
use mathlib.Core.List.{List, [], ◌∷◌}
use mathlib.Core.Path.{◌≡◌, refl, ap, sym, ◌∙◌}
use native.Mathlib.Numerals.{add-one}
use native.Mathlib.Omega.{arith}
use borrow.Author.Tests.{ltb-true, ltb-false, eq-eqb, ne_eqb}
use lib.Dec.{ltb}
use lib.ListN.{length, get_or, take, drop, drop_of_length-le, length-drop}
use lib.Seq.{drop-cons, take_all, length-take-le, get_or-drop}
use Rattle.format.specs.Limits.{path_most}
use Rattle.format.specs.Bytes.{part, u8}
use Rattle.format.specs.Path.{with_byte, path_parts, is_component, all_components, parse_path, components, bad_path}
use Rattle.walk.proofs.Tests.{range-below, range-above, range_inside}
use Rattle.path.specs.Form.{EndsAt, SoundPath, components_of}

-- the part from a to a is empty
part_none : (s : List ℕ) (a : ℕ) → part s a (a - a) ≡ []
part_none s a = let e : a - a ≡ 0 = omega arith in ap (part s a) e

-- the parts from i on, by the byte at i
module _ (path : List ℕ) (i : ℕ) where
  parts-slash : i < length path → get_or path i 0 ≡ 0x2f → path_parts (drop i path) ≡ [] ∷ path_parts (drop (i + 1) path)
  unfolding path_parts
  parts-slash h e = rw (drop-cons path i 0 h, eq-eqb _ _ e, add-one)

  parts-byte : i < length path → (get_or path i 0 ≡ 0x2f → ⊥) → path_parts (drop i path) ≡ with_byte (get_or path i 0) (path_parts (drop (i + 1) path))
  unfolding path_parts
  parts-byte h n = rw (drop-cons path i 0 h, ne_eqb _ _ n, add-one)

  parts-end : length path ≤ i → path_parts (drop i path) ≡ [] ∷ []
  unfolding path_parts
  parts-end h = rw (drop_of_length-le path {i = i} h)

  part-byte-more : (r : ℕ) → i < length path → i + 1 ≤ r → get_or path i 0 ∷ part path (i + 1) (r - (i + 1)) ≡ part path i (r - i)
  part-byte-more r h k = let e : r - i ≡ suc (r - suc i) = omega arith in rw (e, drop-cons path i 0 h, add-one)

  pub ends-here : i < length path → get_or path i 0 ≡ 0x2f → EndsAt path i i
  ends-here h e = record {
    after = omega arith;
    inside = omega arith;
    last = λ z. absurd (omega arith);
    more = λ z. rw (part_none path i) (parts-slash h e);
  }

  pub ends-later : (r : ℕ) → i < length path → (get_or path i 0 ≡ 0x2f → ⊥) → EndsAt path (i + 1) r → EndsAt path i r
  ends-later r h n f = record {
    after = omega arith;
    inside = omega arith;
    last = λ z. parts-byte h n ∙ rw (f.last z, part-byte-more r h f.after);
    more = λ z. parts-byte h n ∙ rw (f.more z, part-byte-more r h f.after);
  }

  pub ends_last : i ≤ length path → length path ≤ i → EndsAt path i i
  ends_last h k = record {
    after = omega arith;
    inside = omega arith;
    last = λ z. rw (part_none path i) (parts-end k);
    more = λ z. absurd (omega arith);
  }

-- behind n bytes that aren't '/'
pub ends-behind : (path : List ℕ) (n i r : ℕ) → i + n ≤ length path → ((k : ℕ) → k < n → get_or path (i + k) 0 ≡ 0x2f → ⊥) →
    EndsAt path (i + n) r → EndsAt path i r
ends-behind path zero i r h f e = let z : i + 0 ≡ i = omega arith in rw z at e
ends-behind path (suc n) i r h f e =
    let z : i + 0 ≡ i = omega arith in
    let m : i + suc n ≡ i + 1 + n = omega arith in
    ends-later path i r (omega arith) (rw z at (f 0 (omega arith)))
    (ends-behind path n (i + 1) r (omega arith) (λ k l. let g : i + 1 + k ≡ i + (k + 1) = omega arith in rw g (f (k + 1) (omega arith))) (rw m at e))

-- by the first '/' of the rest of a path, or where the rest has none
module _ (path : List ℕ) (a : ℕ) (h : a ≤ length path) where
  abbrev pub rest : List ℕ
  rest = take (length path - a) (drop a path)

  rest-long : length rest ≡ length path - a
  rest-long = length-take-le (length path - a) (drop a path) (simp length-drop (omega arith))

  rest-byte : (k : ℕ) → get_or rest k 0 ≡ get_or path (a + k) 0
  rest-byte k = ap (λ (l : List ℕ). get_or l k 0) (take_all (length path - a) (drop a path) (simp length-drop (omega arith))) ∙ get_or-drop a path k 0

  pub ends-first : (n : ℕ) → n < length rest → get_or rest n 0 ≡ 0x2f → ((k : ℕ) → k < n → get_or rest k 0 ≡ 0x2f → ⊥) → EndsAt path a (a + n)
  ends-first n l here before =
      let fits : n < length path - a = omega (arith, rest-long) in
      ends-behind path n a (a + n) (omega arith) (λ k m e. before k m (rest-byte k ∙ e)) (ends-here path (a + n) (omega arith) (sym (rest-byte n) ∙ here))

  pub ends-none : ((k : ℕ) → k < length rest → get_or rest k 0 ≡ 0x2f → ⊥) → EndsAt path a (length path)
  ends-none none =
      let e : a + (length path - a) ≡ length path = omega arith in
      let all : EndsAt path (length path) (length path) = ends_last path (length path) (omega arith) (omega arith) in
      ends-behind path (length path - a) a (length path) (omega arith) (λ k m q. none k (omega (arith, rest-long)) (rest-byte k ∙ q)) (rw e all)

-- the components from a on, the first of which ends at r: that one decides, or it is the last, or the others do
module _ (path : List ℕ) (a r : ℕ) (ends : EndsAt path a r) (whole : Bool) (e : whole ≡ all_components (path_parts (drop a path))) where
  pub all-refused : is_component (part path a (r - a)) ≡ false → false ≡ whole
  unfolding all_components
  all-refused n = go (ltb r (length path)) refl
    where
      go : (t : Bool) → ltb r (length path) ≡ t → false ≡ whole
      go true p = sym (e ∙ rw (ends.more (ltb-true r (length path) p), n))
      go false p = sym (e ∙ rw (ends.last (omega (arith, ends.inside, ltb-false r (length path) p)), n))

  pub all_done : r ≡ length path → is_component (part path a (r - a)) ≡ true → true ≡ whole
  unfolding all_components
  all_done z n = sym (e ∙ rw (ends.last z, n))

  pub all-next : r < length path → is_component (part path a (r - a)) ≡ true → whole ≡ all_components (path_parts (drop (r + 1) path))
  unfolding all_components
  all-next z n = e ∙ rw (ends.more z, n)

-- a path that is refused, and one that is not
refused : (path : List ℕ) → parse_path path ≡ bad_path → SoundPath path false
refused path e = record {
  begun = λ z. let y : ◌≡◌ {A = ℕ} 0 1 = cc in absurd (omega arith);
  sound = λ z. let y : ◌≡◌ {A = ℕ} 0 1 = cc in absurd (omega arith);
  bad = λ z. e;
}

taken : (path : List ℕ) → 1 ≤ length path → parse_path path ≡ components (components_of path) → SoundPath path true
taken path h e = record {
  begun = λ z. h;
  sound = λ z. e;
  bad = λ z. let y : ◌≡◌ {A = ℕ} 0 1 = cc in absurd (omega arith);
}

-- A whole path, by the first test that decides.
module _ (path : List ℕ) where
  pub path_empty : length path < 1 → SoundPath path false
  unfolding parse_path
  path_empty h = refused path (rw (range-below 1 path_most (length path) h))

  pub path-long : path_most < length path → SoundPath path false
  unfolding parse_path
  path-long h = refused path (rw (range-above 1 path_most (length path) h))

  module _ (h : 1 ≤ length path) (k : length path ≤ path_most) where
    pub path-start : (u8 path 0 ≡ 0x2f → ⊥) → SoundPath path false
    unfolding parse_path
    path-start n = refused path (rw (range_inside 1 path_most (length path) h k, ne_eqb _ _ n))

    module _ (start : u8 path 0 ≡ 0x2f) where
      pub path-root : length path ≡ 1 → SoundPath path true
      unfolding parse_path
      path-root e = taken path h (rw (range_inside 1 path_most (length path) h k, eq-eqb _ _ start, eq-eqb _ _ e))

      pub path-rest : (r : Bool) → (length path ≡ 1 → ⊥) → r ≡ all_components (path_parts (drop 1 path)) → SoundPath path r
      unfolding parse_path
      path-rest true n e = taken path h (rw (range_inside 1 path_most (length path) h k, eq-eqb _ _ start, ne_eqb _ _ n, ← e))
      path-rest false n e = refused path (rw (range_inside 1 path_most (length path) h k, eq-eqb _ _ start, ne_eqb _ _ n, ← e))
