-- The end of a component, by what the entries say of its name.
use Prim.Native.Nat.{ℕ}
use mathlib.Core.Bool.{Bool, true, false}
use mathlib.Core.List.{List}
use mathlib.Core.Path.{◌≡◌, refl, ap, ◌∙◌}
use native.Mathlib.Omega.{arith}
use Rattle.format.specs.Blocks.{Block}
use Rattle.format.specs.declared.Refusal.{Refusal}
use Rattle.format.specs.Walk.{fault, answer_of, done, refused, run}
use Rattle.format.specs.Lookup.{Link, absent, hard, soft, object, symbolic, target_walk}

module _ (im : List ℕ) (eof room : ℕ) where
  pub target-object : (is_last : Bool) (l : Link) (cs : List Block) (a : ℕ) (bs : List Block) →
      run im eof room (target_walk is_last l) cs ≡ done (object a) bs →
      (l ≡ hard a) × (cs ≡ bs)
  unfolding target_walk run
  target-object is_last absent cs a bs e = let z : ◌≡◌ {A = ℕ} 0 1 = cc in absurd (omega arith)
  target-object is_last (hard x) cs a bs e = let same : x ≡ a = cc in (ap hard same, cc)
  target-object true soft cs a bs e = let z : ◌≡◌ {A = ℕ} 0 1 = cc in absurd (omega arith)
  target-object false soft cs a bs e = let z : ◌≡◌ {A = ℕ} 0 1 = cc in absurd (omega arith)

  pub target-symbolic : (is_last : Bool) (l : Link) (cs bs : List Block) → run im eof room (target_walk is_last l) cs ≡ done symbolic bs →
      (l ≡ soft) × (is_last ≡ true) × (cs ≡ bs)
  unfolding target_walk run
  target-symbolic is_last absent cs bs e = let z : ◌≡◌ {A = ℕ} 0 1 = cc in absurd (omega arith)
  target-symbolic is_last (hard x) cs bs e = let z : ◌≡◌ {A = ℕ} 0 1 = cc in absurd (omega arith)
  target-symbolic true soft cs bs e = (refl, refl, cc)
  target-symbolic false soft cs bs e = let z : ◌≡◌ {A = ℕ} 0 1 = cc in absurd (omega arith)

  pub target-absent : (is_last : Bool) (l : Link) (cs : List Block) (r : Refusal) (bs : List Block) → answer_of r ≡ 15 →
      run im eof room (target_walk is_last l) cs ≡ refused r bs → (l ≡ absent) × (cs ≡ bs)
  unfolding target_walk run
  target-absent is_last absent cs r bs n e = (refl, cc)
  target-absent is_last (hard x) cs r bs n e = let z : ◌≡◌ {A = ℕ} 0 1 = cc in absurd (omega arith)
  target-absent true soft cs r bs n e = let z : ◌≡◌ {A = ℕ} 0 1 = cc in absurd (omega arith)
  target-absent false soft cs r bs n e =
      let same : fault 16 0 ≡ r = cc in
      let z : ◌≡◌ {A = ℕ} 16 15 = ap answer_of same ∙ n in
      absurd (omega arith)

  pub target-early : (is_last : Bool) (l : Link) (cs : List Block) (r : Refusal) (bs : List Block) → answer_of r ≡ 16 →
      run im eof room (target_walk is_last l) cs ≡ refused r bs → (l ≡ soft) × (is_last ≡ false) × (cs ≡ bs)
  unfolding target_walk run
  target-early is_last absent cs r bs n e =
      let same : fault 15 0 ≡ r = cc in
      let z : ◌≡◌ {A = ℕ} 15 16 = ap answer_of same ∙ n in
      absurd (omega arith)
  target-early is_last (hard x) cs r bs n e = let z : ◌≡◌ {A = ℕ} 0 1 = cc in absurd (omega arith)
  target-early true soft cs r bs n e = let z : ◌≡◌ {A = ℕ} 0 1 = cc in absurd (omega arith)
  target-early false soft cs r bs n e = (refl, refl, cc)
