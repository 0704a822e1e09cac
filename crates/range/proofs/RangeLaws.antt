-- Laws of ranges: the higher and the lower of two keys, and the range between two keys inside another.
use Prim.Native.Nat.{ℕ}
use mathlib.Core.Bool.{Bool, true, false, not}
use mathlib.Core.List.{List, [], ◌∷◌}
use mathlib.Core.Logic.{⊎_elim}
use mathlib.Core.Path.{◌≡◌, refl, ap, sym, ◌∙◌}
use native.Mathlib.Omega.{arith}
use Rattle.std.specs.Prelude.{Some, None}
use Rattle.format.specs.Bytes.{all_hold}
use Rattle.format.specs.Names.{below, within}
use Rattle.walk.proofs.Tests.{all-fails, all-passes, all-last}
use Rattle.order.proofs.OrderLaws.{below-transitive, below-asymmetric, below_total}
use Rattle.range.specs.Range.{Range, NameInside, name_in, range_holds, at_most, Floor, HigherOf, LowerOf, Narrowed}
use Rattle.range.specs.declared.Name.{Name}
use Rattle.range.specs.declared.Keys.{Keys}

-- Of two tests the one from which the other follows says what both say.
module _ (x y : Bool) where
  first_says : (x ≡ true → y ≡ true) → x ≡ all_hold (x ∷ y ∷ [])
  first_says f = go x refl
    where
      go : (z : Bool) → x ≡ z → x ≡ all_hold (x ∷ y ∷ [])
      go true e = all-passes _ e (e ∙ sym (f e) ∙ all-last y)
      go false e = e ∙ all-fails _ e

  second-says : (y ≡ true → x ≡ true) → y ≡ all_hold (x ∷ y ∷ [])
  second-says f = go y refl
    where
      go : (z : Bool) → y ≡ z → y ≡ all_hold (x ∷ y ∷ [])
      go true e = all-passes _ (f e) (all-last y)
      go false e = rest x refl
        where
          rest : (z : Bool) → x ≡ z → y ≡ all_hold (x ∷ y ∷ [])
          rest true p = all-passes _ p (all-last y)
          rest false p = e ∙ all-fails _ p

  turned : (x ≡ true → y ≡ true) → not y ≡ true → not x ≡ true
  turned f n = go x refl
    where
      go : (z : Bool) → x ≡ z → not x ≡ true
      go true e = let z : ◌≡◌ {A = ℕ} 0 1 = cc (ap not (f e)) in absurd (omega arith)
      go false e = ap not e

-- what is above a string is above every one that isn't higher
pub above_lower : (a b t : List ℕ) → below b a ≡ false → below b t ≡ true → below a t ≡ true
above_lower a b t n h =
    ⊎_elim (λ l. below-transitive a b t l h)
    (λ m. ⊎_elim (λ (e : a ≡ b). rw e h) (λ l. let z : ◌≡◌ {A = ℕ} 0 1 = cc in absurd (omega arith)) m)
    (below_total a b)

-- The higher and the lower of two keys, by how they compare.
module _ (seg : List ℕ) (a b : Name) where
  pub higher-second : NameInside seg b → below (name_in seg a) (name_in seg b) ≡ true → HigherOf seg a b b
  higher-second i e = record {
    inside = i;
    above = λ t. first_says _ _ (above_lower (name_in seg a) (name_in seg b) t (below-asymmetric _ _ e));
  }

  pub higher-first : NameInside seg a → below (name_in seg a) (name_in seg b) ≡ false → HigherOf seg a b a
  higher-first i e = record { inside = i; above = λ t. second-says _ _ (above_lower (name_in seg b) (name_in seg a) t e) }

  pub lower-second : NameInside seg b → below (name_in seg b) (name_in seg a) ≡ true → LowerOf seg a b b
  lower-second i e = record {
    inside = i;
    not_above = λ t. first_says _ _ (turned _ _ (above_lower (name_in seg b) (name_in seg a) t (below-asymmetric _ _ e)));
  }

  pub lower-first : NameInside seg a → below (name_in seg b) (name_in seg a) ≡ false → LowerOf seg a b a
  lower-first i e = record { inside = i; not_above = λ t. second-says _ _ (turned _ _ (above_lower (name_in seg a) (name_in seg b) t e)) }

-- two tests and two more are two tests of two each
four : (x y p q : Bool) → all_hold (x ∷ y ∷ all_hold (p ∷ q ∷ []) ∷ []) ≡ all_hold (all_hold (x ∷ p ∷ []) ∷ all_hold (y ∷ q ∷ []) ∷ [])
unfolding all_hold
four false y p q = refl
four true true true true = refl
four true true true false = refl
four true true false q = refl
four true false true q = refl
four true false false q = refl

two : (x y : Bool) → all_hold (x ∷ y ∷ true ∷ []) ≡ all_hold (x ∷ y ∷ [])
unfolding all_hold
two false y = refl
two true true = refl
two true false = refl

-- a test joined with the first of two is the same before the second
joined : (x y p q : Bool) → p ≡ all_hold (y ∷ x ∷ []) → all_hold (x ∷ all_hold (y ∷ q ∷ []) ∷ []) ≡ all_hold (p ∷ q ∷ [])
unfolding all_hold
joined x y p q e = rw e (go x y q)
  where
    go : (x y q : Bool) → all_hold (x ∷ all_hold (y ∷ q ∷ []) ∷ []) ≡ all_hold (all_hold (y ∷ x ∷ []) ∷ q ∷ [])
    go false false q = refl
    go false true q = refl
    go true false q = refl
    go true true true = refl
    go true true false = refl

-- two tests that hold, hold each
both_hold : (x y : Bool) → all_hold (x ∷ y ∷ []) ≡ true → (x ≡ true) × (y ≡ true)
unfolding all_hold
both_hold true true e = (refl, refl)
both_hold true false e = (refl, e)
both_hold false y e = (e, let z : ◌≡◌ {A = ℕ} 0 1 = cc in absurd (omega arith))

-- where the first of two tests holds and not both, the second doesn't
pub second-fails : (x y : Bool) → x ≡ true → all_hold (x ∷ y ∷ []) ≡ false → y ≡ false
unfolding all_hold
second-fails true true p e = e
second-fails true false p e = refl
second-fails false y p e = let z : ◌≡◌ {A = ℕ} 0 1 = cc in absurd (omega arith)

-- The floor of a range, by whether keys bound it.
module _ (seg : List ℕ) (last : Name) where
  pub floor-last : NameInside seg last → Floor seg None (name_in seg last) last
  floor-last i = record { inside = i; above = λ t. refl }

  pub floor-higher : (k : Keys) (r : Name) → HigherOf seg last k.low r → Floor seg (Some k) (name_in seg last) r
  floor-higher k r h = record { inside = h.inside; above = λ t. joined _ _ _ _ (h.above t) }

-- What the floor and the high key say of a name.
module _ (seg : List ℕ) (range : Range) (last : List ℕ) (floor : Name) (t : List ℕ) (f : Floor seg range last floor) where
  pub floor-passed : below (name_in seg floor) t ≡ true → at_most seg range t ≡ true → (below last t ≡ true) × (range_holds seg range t ≡ true)
  floor-passed e g = both_hold _ _ (f.above t ∙ sym (all-passes _ e (sym g ∙ all-last _)))

  pub floor-refused : below (name_in seg floor) t ≡ false → all_hold (below last t ∷ range_holds seg range t ∷ []) ≡ false
  floor-refused e = f.above t ∙ sym (all-fails _ e)

  pub high-refused : below (name_in seg floor) t ≡ true → at_most seg range t ≡ false → all_hold (below last t ∷ range_holds seg range t ∷ []) ≡ false
  high-refused e g = f.above t ∙ sym (all-passes _ e (sym g ∙ all-last _))

-- behind a name that is in the range, that name is the floor
pub floor-next : (seg : List ℕ) (range : Range) (name : Name) → NameInside seg name → range_holds seg range (name_in seg name) ≡ true →
    Floor seg range (name_in seg name) name
floor-next seg None name i held = record { inside = i; above = λ t. refl }
floor-next seg (Some k) name i held = record { inside = i; above = λ t. turn t (below (name_in seg name) t) refl }
  where
    low : below (name_in seg k.low) (name_in seg name) ≡ true
    low = (both_hold _ _ held).0

    turn : (t : List ℕ) (z : Bool) → below (name_in seg name) t ≡ z →
        all_hold (below (name_in seg name) t ∷ range_holds seg (Some k) t ∷ []) ≡ all_hold (below (name_in seg name) t ∷ at_most seg (Some k) t ∷ [])
    turn t false p = sym (all-fails _ p) ∙ all-fails _ p
    turn t true p = rw p (ap (λ (q : Bool). all_hold (true ∷ q ∷ [])) (sym (all-passes _ (below-transitive _ _ _ low p) (all-last _))))

-- The range of a child: between two keys, inside the range of its node.
module _ (seg : List ℕ) (low high : Name) where
  pub narrowed-first : NameInside seg low → NameInside seg high → Narrowed seg None low high (Some (record { low = low; high = high }))
  unfolding within
  narrowed-first i j = record {
    inside = record { low_inside = i; high_inside = j };
    tight = λ bounds f t l. rw (f t l) (two _ _);
  }

  pub narrowed-more : (k : Keys) (l h : Name) → HigherOf seg k.low low l → LowerOf seg k.high high h →
      Narrowed seg (Some k) low high (Some (record { low = l; high = h }))
  unfolding within
  narrowed-more k l h u v = record {
    inside = record { low_inside = u.inside; high_inside = v.inside };
    tight = λ bounds f t m. rw (f t m, u.above t, v.not_above t) (four _ _ _ _);
  }
