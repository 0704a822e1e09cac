-- The corrections of a mend: one for each object whose count is wrong.
use Prim.Native.Nat.{ℕ, ◌+◌}
use mathlib.Core.Bool.{Bool, true, false}
use mathlib.Core.List.Memᴰ
use mathlib.Core.List.{List, [], ◌∷◌, Memᴰ}
use mathlib.Core.Logic.{⊎_elim}
use mathlib.Core.Path.{◌≡◌, refl, ap, sym, ◌∙◌}
use borrow.Author.Tests.{eqb-true, eqb-false}
use lib.Dec.{eqb}
use Rattle.std.specs.Prelude.{if◌then◌else◌}
use Rattle.format.specs.Bytes.{u32}
use Rattle.format.specs.Ledger.{Linked}
use Rattle.format.specs.Audit.{Counted, counted_in}
use Rattle.format.specs.Log.{Change}
use Rattle.format.specs.Mend.{corrections}
use Rattle.demand.specs.Counts.{Wrong}

-- the change that mends an object
abbrev pub change_of : Counted → Change
change_of o = record { field = o.address + 4; old = o.stored_count; new = o.true_count }

-- an object as the audit of an image reports it
abbrev pub counted_of : List ℕ → Linked → Counted
counted_of im o = record { address = o.address; stored_count = u32 im (o.address + 4); true_count = o.links }

wrong-later : (o : Counted) (os : List Counted) (p : Counted) → Wrong os p → Wrong (o ∷ os) p
wrong-later o os p w = record { member = Memᴰ.tail w.member; differ = w.differ }

-- a correction is that of an object whose count is wrong
abbrev pub Mends : List Counted → Change → Type 0
Mends os c = (o : Counted) × Wrong os o × (c ≡ change_of o)

pub correction-from : (os : List Counted) (c : Change) → Memᴰ c (corrections os) → Mends os c
unfolding corrections
correction-from [] c m = absurd (Memᴰ.not-nil m)
correction-from (o ∷ os) c m =
    go (eqb o.stored_count o.true_count) refl m (λ i. let r = correction-from os c i in (r.0, wrong-later o os r.0 r.1, r.2))
  where
    go : (t : Bool) → eqb o.stored_count o.true_count ≡ t → Memᴰ c (if t then corrections os else change_of o ∷ corrections os) →
        (Memᴰ c (corrections os) → Mends (o ∷ os) c) → Mends (o ∷ os) c
    go true e i rest = rest i
    go false e i rest = ⊎_elim (λ same. (o, record { member = Memᴰ.head refl; differ = eqb-false _ _ e }, same)) rest (Memᴰ.cases_cons i)

-- each object whose count is wrong has its correction
pub correction-of : (os : List Counted) (o : Counted) → Wrong os o → Memᴰ (change_of o) (corrections os)
unfolding corrections
correction-of [] o w = absurd (Memᴰ.not-nil w.member)
correction-of (p ∷ os) o w = go (eqb p.stored_count p.true_count) refl (correction-of os o)
  where
    go : (t : Bool) → eqb p.stored_count p.true_count ≡ t → (Wrong os o → Memᴰ (change_of o) (corrections os)) →
        Memᴰ (change_of o) (if t then corrections os else change_of p ∷ corrections os)
    go true e rest =
        ⊎_elim (λ same. absurd (w.differ (ap (λ (x : Counted). x.stored_count) same ∙ eqb-true _ _ e ∙ ap (λ (x : Counted). x.true_count) (sym same))))
        (λ i. rest (record { member = i; differ = w.differ })) (Memᴰ.cases_cons w.member)
    go false e rest =
        ⊎_elim (λ same. Memᴰ.head (ap change_of same)) (λ i. Memᴰ.tail (rest (record { member = i; differ = w.differ })))
        (Memᴰ.cases_cons w.member)

-- the objects that an audit reports are those of its ledger
pub counted-from : (im : List ℕ) (os : List Linked) (p : Counted) → Memᴰ p (counted_in im os) → (o : Linked) × Memᴰ o os × (p ≡ counted_of im o)
unfolding counted_in
counted-from im [] p m = absurd (Memᴰ.not-nil m)
counted-from im (o ∷ os) p m =
    ⊎_elim (λ same. (o, Memᴰ.head refl, same)) (λ i. let r = counted-from im os p i in (r.0, Memᴰ.tail r.1, r.2)) (Memᴰ.cases_cons m)

pub counted-member : (im : List ℕ) (os : List Linked) (o : Linked) → Memᴰ o os → Memᴰ (counted_of im o) (counted_in im os)
unfolding counted_in
counted-member im [] o m = absurd (Memᴰ.not-nil m)
counted-member im (p ∷ os) o m =
    ⊎_elim (λ same. Memᴰ.head (ap (counted_of im) same)) (λ i. Memᴰ.tail (counted-member im os o i)) (Memᴰ.cases_cons m)
