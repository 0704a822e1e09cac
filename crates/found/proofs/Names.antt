-- What entries whose names rise say of a name: the one entry that has it, or nothing.
use Prim.Native.Nat.{ℕ}
use mathlib.Core.Bool.{Bool, true, false}
use mathlib.Core.List.{List, [], ◌∷◌, ◌++◌, Memᴰ}
use mathlib.Core.Logic.{◌⊎◌, inl, inr, ⊎_elim}
use mathlib.Core.Path.{◌≡◌, refl, ap, sym, ◌∙◌}
use native.Mathlib.Omega.{arith}
use Rattle.std.specs.Prelude.{if◌then◌else◌}
use Rattle.format.specs.Bytes.{same_bytes}
use Rattle.format.specs.Entry.{Entry, is_hard}
use Rattle.format.specs.Lookup.{absent, hard, soft}
use Rattle.order.proofs.OrderLaws.{same-equal}
use Rattle.group.specs.Entries.{link_to, remembered, Rising, NoneNamed}
use Rattle.group.proofs.Entries.{remembered-entry, not-remembered}

-- a member stands between those before it and those behind it
member-split : {e : Entry} {es : List Entry} → Memᴰ e es → (before after : List Entry) × (es ≡ before ++ (e ∷ after))
member-split (Memᴰ.head {x = x} {xs = xs} same) = ([], xs, ap (λ (y : Entry). y ∷ xs) (sym same))
member-split (Memᴰ.tail {x = x} m) = let r = member-split m in (x ∷ r.0, r.1, ap (λ (ys : List Entry). x ∷ ys) r.2)

-- an entry has the name, or none has
named-or-none : (name : List ℕ) (es : List Entry) → ((e : Entry) × Memᴰ e es × (e.name ≡ name)) ⊎ NoneNamed name es
unfolding NoneNamed
named-or-none name [] = inr tt
named-or-none name (e ∷ es) = go (same_bytes e.name name) refl (named-or-none name es)
  where
    go : (t : Bool) → same_bytes e.name name ≡ t → ((f : Entry) × Memᴰ f es × (f.name ≡ name)) ⊎ NoneNamed name es →
        ((f : Entry) × Memᴰ f (e ∷ es) × (f.name ≡ name)) ⊎ ((same_bytes e.name name ≡ false) × NoneNamed name es)
    go true h r = inl (e, Memᴰ.head refl, same-equal e.name name h)
    go false h (inl r) = inl (r.0, Memᴰ.tail r.1, r.2)
    go false h (inr r) = inr (h, r)

hard-link : (e : Entry) (a : ℕ) → link_to e ≡ hard a → (is_hard e ≡ true) × (e.header ≡ a)
hard-link e a h = go (is_hard e) refl h
  where
    go : (t : Bool) → is_hard e ≡ t → (if t then hard e.header else soft) ≡ hard a → (is_hard e ≡ true) × (e.header ≡ a)
    go true k q = (k, cc)
    go false k q = let z : ◌≡◌ {A = ℕ} 0 1 = cc in absurd (omega arith)

soft-link : (e : Entry) → link_to e ≡ soft → is_hard e ≡ false
soft-link e h = go (is_hard e) refl h
  where
    go : (t : Bool) → is_hard e ≡ t → (if t then hard e.header else soft) ≡ soft → is_hard e ≡ false
    go true k q = let z : ◌≡◌ {A = ℕ} 0 1 = cc in absurd (omega arith)
    go false k q = k

some-link : (e : Entry) → link_to e ≡ absent → ⊥
some-link e h = go (is_hard e) h
  where
    go : (t : Bool) → (if t then hard e.header else soft) ≡ absent → ⊥
    go true q = let z : ◌≡◌ {A = ℕ} 0 1 = cc in omega arith
    go false q = let z : ◌≡◌ {A = ℕ} 0 1 = cc in omega arith

module _ (name : List ℕ) (es : List Entry) (r : Rising es) where
  -- the entry of this name is what is remembered
  pub says-entry : (e : Entry) → Memᴰ e es → e.name ≡ name → remembered name es absent ≡ link_to e
  says-entry e m n =
      let p = member-split m in
      let split : es ≡ p.0 ++ (e ∷ p.1) = p.2 in
      rw (← n, split) (remembered-entry p.0 p.1 e absent (rw split at r))

  -- an entry of this name, with what is remembered; or there is none, and nothing is
  says : ((e : Entry) × Memᴰ e es × (e.name ≡ name) × (remembered name es absent ≡ link_to e)) ⊎ (NoneNamed name
      es × (remembered name es absent ≡ absent))
  says = ⊎_elim (λ h. inl (h.0, h.1, h.2, says-entry h.0 h.1 h.2)) (λ h. inr (h, not-remembered name es absent h)) (named-or-none name es)

  pub says-hard : (a : ℕ) → remembered name es absent ≡ hard a → (e : Entry) × Memᴰ e es × (e.name ≡ name) × (is_hard e ≡ true) × (e.header ≡ a)
  says-hard a q =
      ⊎_elim (λ h. let k = hard-link h.0 a (sym h.3 ∙ q) in (h.0, h.1, h.2, k.0, k.1))
      (λ h. let z : ◌≡◌ {A = ℕ} 0 1 = cc h.1 in absurd (omega arith)) says

  pub says-soft : remembered name es absent ≡ soft → (e : Entry) × Memᴰ e es × (e.name ≡ name) × (is_hard e ≡ false)
  says-soft q =
      ⊎_elim (λ h. (h.0, h.1, h.2, soft-link h.0 (sym h.3 ∙ q))) (λ h. let z : ◌≡◌ {A = ℕ} 0 1 = cc h.1 in absurd (omega arith)) says

  pub says-absent : remembered name es absent ≡ absent → NoneNamed name es
  says-absent q = ⊎_elim (λ h. absurd (some-link h.0 (sym h.3 ∙ q))) (λ h. h.0) says
