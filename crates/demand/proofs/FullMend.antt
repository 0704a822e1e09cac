-- "a full mend audits clean": with all corrections written, the audit runs as before and finds no wrong count.
use Prim.Native.Nat.{ℕ, ◌+◌}
use mathlib.Core.Bool.{Bool, true, false}
use mathlib.Core.List.{List, [], ◌∷◌, Memᴰ}
use mathlib.Core.Logic.{inl, inr, ⊎_elim}
use mathlib.Core.Path.{◌≡◌, refl, ap, sym, ◌∙◌}
use native.Mathlib.Omega.{arith}
use borrow.Author.Tests.{eqb-true, eqb-false}
use lib.Dec.{eqb}
use Rattle.format.specs.Bytes.{part, little_endian, u32}
use Rattle.format.specs.Blocks.{Block}
use Rattle.format.specs.Walk.{done}
use Rattle.format.specs.Superblock.{Superblock, opened, open_image}
use Rattle.format.specs.Ledger.{Linked}
use Rattle.format.specs.Audit.{counted_in, audit_run}
use Rattle.format.specs.Log.{Change, put_count, written}
use Rattle.format.specs.Mend.{corrections}
use Rattle.format.specs.Answers.{audit_end, audit}
use Rattle.found.specs.Beside.{Beside}
use Rattle.demand.specs.Bytes.{IsBytes}
use Rattle.demand.specs.Counts.{Wrong}
use Rattle.demand.specs.Demand3.{corrected, Clean}
use Rattle.demand.proofs.Puts.{put-beside, count-read}
use Rattle.demand.proofs.Corrections.{change_of, counted_of, correction-of, counted-member}
use Rattle.demand.proofs.AuditFields.{objects-apart, mended, audit-fields}
use Rattle.demand.proofs.AuditCounts.{counts-small}
use Rattle.demand.proofs.States.{state-first}
use Rattle.demand.proofs.NewHeld.{new-held}

-- the reply of an audit that is done
pub audit-reply : (im : List ℕ) (lent : ℕ) (os : List Linked) (bs : List Block) → audit_run im lent ≡ done os bs →
    audit im lent ≡ audit_end im lent (done os bs)
unfolding audit
audit-reply im lent os bs e = ap (audit_end im lent) e

-- objects read from an image that holds the true count of each
true-stored : (im im' : List ℕ) (os : List Linked) → ((o : Linked) → Memᴰ o os → u32 im' (o.address + 4) ≡ o.links) →
    counted_in im' os ≡ corrected (counted_in im os)
unfolding counted_in corrected
true-stored im im' [] h = refl
true-stored im im' (o ∷ os) h =
    let here = h o (Memᴰ.head refl) in
    rw (here, true-stored im im' os (λ p i. h p (Memᴰ.tail i)))

-- four bytes beside all fields that are written
written-beside : (im : List ℕ) (a : ℕ) (ds : List Change) → ((d : Change) → Memᴰ d ds → Beside a 4 d.field 4) → part (written im ds) a 4 ≡ part im a 4
unfolding written
written-beside im a [] h = refl
written-beside im a (d ∷ ds) h =
    written-beside (put_count im d.field d.new) a ds (λ c i. h c (Memᴰ.tail i)) ∙ put-beside im d.field d.new a (h d (Memᴰ.head refl))

module _ (im : List ℕ) (lent : ℕ) (s : Superblock) (os : List Linked) (bs : List Block) (p : open_image im ≡ opened s) (e : audit_run im lent ≡ done os bs)
    (b : IsBytes im) where
  abbrev cs : List Change
  cs = corrections (counted_in im os)

  -- a count that isn't wrong stands beside all that are
  right-beside : (o : Linked) → Memᴰ o os → u32 im (o.address + 4) ≡ o.links → (d : Change) → Memᴰ d cs → Beside (o.address + 4) 4 d.field 4
  right-beside o m right d i =
      let q = mended im lent s os bs p e d i in
      let field : d.field ≡ q.0.address + 4 = ap (λ (x : Change). x.field) q.2 in
      ⊎_elim
      (λ same.
      let own : d ≡ change_of (counted_of im o) = q.2 ∙ ap (λ (x : Linked). change_of (counted_of im x)) (sym same) in
      absurd (q.3 (ap (λ (x : Change). x.old) own ∙ right ∙ ap (λ (x : Change). x.new) (sym own))))
      (⊎_elim (λ l. inl (omega arith)) (λ l. inr (omega arith)))
      (objects-apart im lent s os bs p e o q.0 m q.1)

  -- every object's field then holds its true count
  true-held : (o : Linked) → Memᴰ o os → u32 (written im cs) (o.address + 4) ≡ o.links
  true-held o m = go (eqb (u32 im (o.address + 4)) o.links) refl
    where
      go : (t : Bool) → eqb (u32 im (o.address + 4)) o.links ≡ t → u32 (written im cs) (o.address + 4) ≡ o.links
      go true k =
          let right = eqb-true (u32 im (o.address + 4)) o.links k in
          ap little_endian (written-beside im (o.address + 4) cs (right-beside o m right)) ∙ right
      go false k =
          let f = audit-fields im lent s os bs p e in
          let differ = eqb-false (u32 im (o.address + 4)) o.links k in
          let w : Wrong (counted_in im os) (counted_of im o) = record { member = counted-member im os o m; differ = differ } in
          let i = correction-of (counted_in im os) (counted_of im o) w in
          count-read (written im cs) (o.address + 4) o.links
          (new-held im s.end_of_file cs f im (state-first im s.end_of_file cs f b) cs (λ d j. j) (change_of (counted_of im o)) i)
          (counts-small im lent s os bs p e o m)

  pub mended-clean : ((words : ℕ) → audit_run (written im cs) words ≡ audit_run im words) → Clean im lent (written im cs)
  mended-clean same =
      let before = audit-reply im lent os bs e in
      let after = audit-reply (written im cs) lent os bs (same lent ∙ e) in
      record { reply = rw (after, before, true-stored im (written im cs) os true-held); run = same }
