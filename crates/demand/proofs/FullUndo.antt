-- All old counts written to a state give the image back, byte for byte.
use Prim.Native.Nat.{ℕ, ◌+◌, ◌-◌, ◌<◌}
use mathlib.Core.Bool.{Bool, true, false}
use mathlib.Core.List.Memᴰ
use mathlib.Core.List.{List, [], ◌∷◌, Memᴰ}
use mathlib.Core.Logic.{◌⊎◌, inl, inr, ⊎_elim}
use mathlib.Core.Path.{◌≡◌, refl, ap, sym, ◌∙◌}
use native.Mathlib.Omega.{arith}
use borrow.Author.Tests.{leb-true, leb-false, ltb-true, ltb-false}
use lib.Dec.{leb, ltb}
use lib.ListN.{get_or}
use lib.Seq.{ext_get_or}
use Rattle.format.specs.Bytes.{to_bytes}
use Rattle.format.specs.Log.{Change, restored}
use Rattle.walk.proofs.Parts.{part-byte}
use Rattle.demand.specs.Bytes.{IsBytes, HoldsCount}
use Rattle.demand.specs.Fields.{Fields}
use Rattle.demand.specs.State.{InChange, State}
use Rattle.demand.proofs.BytesBack.{count_held}
use Rattle.demand.proofs.States.{state-restored}
use Rattle.demand.proofs.OldHeld.{old-held}

in-or-not : (c : Change) (i : ℕ) → InChange c i ⊎ (InChange c i → ⊥)
in-or-not c i = go (leb c.field i) (ltb i (c.field + 4)) refl refl
  where
    go : (t u : Bool) → leb c.field i ≡ t → ltb i (c.field + 4) ≡ u → InChange c i ⊎ (InChange c i → ⊥)
    go true true e f = inl (leb-true _ _ e, ltb-true _ _ f)
    go true false e f = inr (λ h. omega (arith, ltb-false i (c.field + 4) f))
    go false u e f = inr (λ h. omega (arith, leb-false c.field i e))

-- a byte lies in the field of one of the changes, or of none
abbrev Somewhere : List Change → ℕ → Type 0
Somewhere cs i = (c : Change) × Memᴰ c cs × InChange c i

find : (cs : List Change) (i : ℕ) → Somewhere cs i ⊎ ((c : Change) → Memᴰ c cs → InChange c i → ⊥)
find [] i = inr (λ c m h. Memᴰ.not-nil m)
find (d ∷ cs) i =
    ⊎_elim
    (λ here. inl (d, Memᴰ.head refl, here))
    (λ no.
    ⊎_elim (λ there. inl (there.0, Memᴰ.tail there.1, there.2))
    (λ none. inr (λ c m h. ⊎_elim (λ same. no (rw same at h)) (λ n. none c n h) (Memᴰ.cases_cons m))) (find cs i))
    (in-or-not d i)

-- two lists that hold the same count in a field have the same bytes there
held-byte : (a b : List ℕ) (c : Change) (x i : ℕ) → HoldsCount a c.field x → HoldsCount b c.field x → InChange c i → get_or a i 0 ≡ get_or b i 0
held-byte a b c x i h k in' =
    let e : c.field + (i - c.field) ≡ i = omega arith in
    let l : i - c.field < 4 = omega arith in
    let first = part-byte a c.field 4 (i - c.field) l in
    let second = part-byte b c.field 4 (i - c.field) l in
    rw e at (sym first ∙ ap (λ (p : List ℕ). get_or p (i - c.field) 0) (h ∙ sym k) ∙ second)

pub restored-all : (im : List ℕ) (eof : ℕ) (cs : List Change) → Fields im eof cs → IsBytes im → (im' : List ℕ) → State im cs im' → restored im' cs ≡ im
restored-all im eof cs f b im' s =
    let r = state-restored im eof cs f im' s cs (λ d i. i) in
    ext_get_or 0 (restored im' cs) im (sym r.same_length)
    (λ i l.
    ⊎_elim
    (λ at.
    let c = at.0 in
    let m = at.1 in
    held-byte (restored im' cs) im c c.old i (old-held im eof cs f im' s cs (λ d j. j) c m)
    (count_held im b c.field (omega (arith, f.image c m)) ∙ ap (to_bytes 4) (sym (f.stored c m))) at.2)
    (λ none. sym (r.elsewhere i none)) (find cs i))
