-- Following a path ends in one of three ways: at an object, at a symbolic link, or where a component is refused.
use Prim.Native.Nat.{ℕ}
use mathlib.Core.Bool.{true}
use mathlib.Core.List.{List, [], ◌∷◌, ◌++◌, append-nil}
use mathlib.Core.Logic.{◌⊎◌, inl, inr}
use mathlib.Core.Path.{◌≡◌, refl, ap, sym, ◌∙◌}
use native.Mathlib.Omega.{arith}
use Rattle.format.specs.Bytes.{is_empty}
use Rattle.format.specs.Blocks.{Block}
use Rattle.format.specs.declared.Refusal.{Refusal}
use Rattle.format.specs.Walk.{Walk, Outcome, done, refused, run, ◌>>◌}
use Rattle.format.specs.Superblock.{Superblock, superblock_walk}
use Rattle.format.specs.Lookup.{Target, object, symbolic, component_walk, follow}
use Rattle.found.specs.Leads.{Leads, here, by_link, to_symbolic}
use Rattle.found.proofs.ComponentFound.{component-found, component-symbolic}

-- the components ps, from the object at this address, are refused with r at one of them
pub record Stopped (im : List ℕ) (s : Superblock) (room at : ℕ) (ps : List (List ℕ)) (r : Refusal) (bs : List Block) : Type 0 where
  pub before : List (List ℕ)
  pub next : List ℕ
  pub after : List (List ℕ)
  pub all : ps ≡ before ++ (next ∷ after)
  pub reached : ℕ
  pub leads : Leads im s room at before (object reached)
  pub stops : run im s.end_of_file room (component_walk s next (is_empty after) reached) [] ≡ refused r bs

empty-none : {A : Type 0} (xs : List A) → is_empty xs ≡ true → xs ≡ []
empty-none [] e = refl
empty-none (x ∷ xs) e = let z : ◌≡◌ {A = ℕ} 0 1 = cc in absurd (omega arith)

module _ (im : List ℕ) (s : Superblock) (room : ℕ) {A : Type 0} (last : ℕ → Walk A) (x : Outcome A) where
  -- behind components that lead to an object, the others are followed from there
  follow-on : {at : ℕ} {qs : List (List ℕ)} {t : Target} → Leads im s room at qs t → (a : ℕ) → t ≡ object a → (rs : List (List ℕ)) →
      follow im s room last x (qs ++ rs) at ≡ follow im s room last x rs a
  unfolding follow
  follow-on (here {at = at}) a q rs = let same : at ≡ a = cc in rw same
  follow-on (by_link {at = at} {p = p} {ps = ps} {e = e} {bs = bs} h k l) a q rs =
      rw ((component-found im s room p (is_empty (ps ++ rs)) at e.header bs).1 (e, h, k, refl)) (follow-on l a q rs)
  follow-on (to_symbolic h k) a q rs = let z : ◌≡◌ {A = ℕ} 0 1 = cc in absurd (omega arith)

  pub follow-object : {at a : ℕ} {qs : List (List ℕ)} → Leads im s room at qs (object a) → (rs : List (List ℕ)) →
      follow im s room last x (qs ++ rs) at ≡ follow im s room last x rs a
  follow-object {at} {a} l rs = follow-on l a refl rs

  pub follow-ends : {at a : ℕ} {ps : List (List ℕ)} → Leads im s room at ps (object a) →
      follow im s room last x ps at ≡ run im s.end_of_file room (superblock_walk s >> last a) []
  unfolding follow
  follow-ends {at} {a} {ps} l = ap (λ (qs : List (List ℕ)). follow im s room last x qs at) (sym (append-nil ps)) ∙ follow-object l []

  follow-to : {at : ℕ} {ps : List (List ℕ)} {t : Target} → Leads im s room at ps t → t ≡ symbolic → follow im s room last x ps at ≡ x
  unfolding follow
  follow-to here q = let z : ◌≡◌ {A = ℕ} 0 1 = cc in absurd (omega arith)
  follow-to (by_link {at = at} {p = p} {ps = ps} {e = e} {bs = bs} h k l) q = rw
      ((component-found im s room p (is_empty ps) at e.header bs).1 (e, h, k, refl)) (follow-to l q)
  follow-to (to_symbolic {at = at} {p = p} {e = e} {bs = bs} h k) q = rw ((component-symbolic im s room p true at bs).1 (e, h, k, refl))

  pub follow-symbolic : {at : ℕ} {ps : List (List ℕ)} → Leads im s room at ps symbolic → follow im s room last x ps at ≡ x
  follow-symbolic l = follow-to l refl

  abbrev pub AtObject : ℕ → List (List ℕ) → Type 0
  AtObject at ps = (a : ℕ) × Leads im s room at ps (object a) × (follow im s room last x ps at ≡ run im s.end_of_file room (superblock_walk s >> last a) [])

  abbrev pub AtSymbolic : ℕ → List (List ℕ) → Type 0
  AtSymbolic at ps = Leads im s room at ps symbolic × (follow im s room last x ps at ≡ x)

  abbrev pub AtRefusal : ℕ → List (List ℕ) → Type 0
  AtRefusal at ps = (r : Refusal) × (bs : List Block) × Stopped im s room at ps r bs × (follow im s room last x ps at ≡ refused r bs)

  pub follow-cases : (ps : List (List ℕ)) (at : ℕ) → AtObject at ps ⊎ (AtSymbolic at ps ⊎ AtRefusal at ps)
  unfolding follow
  follow-cases [] at = inl (at, here, refl)
  follow-cases (p ∷ ps) at = go (run im s.end_of_file room (component_walk s p (is_empty ps) at) []) refl (follow-cases ps)
    where
      step : (a : ℕ) (bs : List Block) → run im s.end_of_file room (component_walk s p (is_empty ps) at) [] ≡ done (object a) bs →
          follow im s room last x (p ∷ ps) at ≡ follow im s room last x ps a
      step a bs e = rw e

      link : (a : ℕ) (bs : List Block) (t : Target) (qs : List (List ℕ)) →
          run im s.end_of_file room (component_walk s p (is_empty ps) at) [] ≡ done (object a) bs → Leads im s room a qs t → Leads im s room at (p ∷ qs) t
      link a bs t qs e l =
          let h = (component-found im s room p (is_empty ps) at a bs).0 e in
          by_link {ps = qs} {t = t} {e = h.0} h.1 h.2 (rw h.3 l)

      on : (a : ℕ) (bs : List Block) → run im s.end_of_file room (component_walk s p (is_empty ps) at) [] ≡ done (object a) bs →
          AtObject a ps ⊎ (AtSymbolic a ps ⊎ AtRefusal a ps) →
          AtObject at (p ∷ ps) ⊎ (AtSymbolic at (p ∷ ps) ⊎ AtRefusal at (p ∷ ps))
      on a bs e (inl h) = inl (h.0, link a bs (object h.0) ps e h.1, step a bs e ∙ h.2)
      on a bs e (inr (inl h)) = inr (inl (link a bs symbolic ps e h.0, step a bs e ∙ h.1))
      on a bs e (inr (inr h)) =
          let t = h.2 in
          inr (inr (
            h.0,
            h.1,
            record {
              before = p ∷ t.before;
              next = t.next;
              after = t.after;
              all = ap (λ (qs : List (List ℕ)). p ∷ qs) t.all;
              reached = t.reached;
              leads = link a bs (object t.reached) t.before e t.leads;
              stops = t.stops;
            },
            step a bs e ∙ h.3,
          ))

      go : (o : Outcome Target) → run im s.end_of_file room (component_walk s p (is_empty ps) at) [] ≡ o →
          ((a : ℕ) → AtObject a ps ⊎ (AtSymbolic a ps ⊎ AtRefusal a ps)) →
          AtObject at (p ∷ ps) ⊎ (AtSymbolic at (p ∷ ps) ⊎ AtRefusal at (p ∷ ps))
      go (done (object a) bs) e later = on a bs e (later a)
      go (done symbolic bs) e later =
          let h = (component-symbolic im s room p (is_empty ps) at bs).0 e in
          let none : ps ≡ [] = empty-none ps h.3 in
          inr (inl (rw none (to_symbolic h.1 h.2), rw e))
      go (refused r bs) e later = inr (inr (r, bs, record { before = []; next = p; after = ps; all = refl; reached = at; leads = here; stops = e }, rw e))
