-- The corrections of an audit that is done: fields inside the image that share no byte.
use Prim.Native.Nat.{ℕ, suc, ◌+◌, ◌≤◌, ◌<◌}
use mathlib.Core.List.Memᴰ
use mathlib.Core.List.{List, [], ◌∷◌, Memᴰ}
use mathlib.Core.Logic.{◌⊎◌, inl, inr, ⊎_elim}
use mathlib.Core.Path.{◌≡◌, ap, sym, ◌∙◌}
use native.Mathlib.Omega.{arith}
use lib.ListN.{length, get_or}
use Rattle.format.specs.Blocks.{Block, room_of}
use Rattle.format.specs.Walk.{done, run}
use Rattle.format.specs.Superblock.{Superblock, opened, open_image}
use Rattle.format.specs.Ledger.{Linked, linked}
use Rattle.format.specs.Audit.{counted_in, audit_walk, audit_run}
use Rattle.format.specs.Log.{Change}
use Rattle.format.specs.Mend.{corrections}
use Rattle.ledger.specs.Links.{addresses_of}
use Rattle.links.specs.Sound.{Sound}
use Rattle.links.proofs.AuditSound.{audit-sound}
use Rattle.links.proofs.LedgerIn.{member-in}
use Rattle.links.proofs.Opened.{opened-end, opened-size}
use Rattle.found.specs.Beside.{Beside}
use Rattle.found.proofs.Replayed.{audit-walked}
use Rattle.found.proofs.LedgerSpared.{behind-superblock}
use Rattle.demand.specs.Bytes.{IsBytes}
use Rattle.demand.specs.Fields.{Fields, Small}
use Rattle.demand.proofs.BytesBack.{count_small}
use Rattle.demand.proofs.HeadersApart.{headers-apart}
use Rattle.demand.proofs.Corrections.{change_of, counted_of, correction-from, counted-from}
use Rattle.demand.proofs.AuditCounts.{counts-small}

-- the place of an object in the ledger
place : (os : List Linked) (o : Linked) → Memᴰ o os → (k : ℕ) × (k < length os) × (get_or (addresses_of os) k 0 ≡ o.address)
unfolding addresses_of
place [] o m = absurd (Memᴰ.not-nil m)
place (p ∷ os) o m =
    ⊎_elim (λ same. (0, omega arith, ap (λ (x : Linked). x.address) (sym same)))
    (λ i. let r = place os o i in (suc r.0, omega (arith, r.1), r.2)) (Memᴰ.cases_cons m)

same_object : (o q : Linked) → o.address ≡ q.address → o.links ≡ q.links → o ≡ q
same_object o q a l =
    let e : linked o.address o.links ≡ linked q.address q.links = cc in
    e

module _ (im : List ℕ) (lent : ℕ) (s : Superblock) (os : List Linked) (bs : List Block) (p : open_image im ≡ opened s)
    (e : audit_run im lent ≡ done os bs) where
  sound : Sound im s os
  sound = audit-sound im lent s os bs p e

  walked : run im s.end_of_file (room_of lent) (audit_walk s) [] ≡ done os bs
  walked = audit-walked im lent s os bs p e

  pub header-inside : (o : Linked) → Memᴰ o os → o.address + 16 ≤ s.end_of_file
  header-inside o m = let r = place os o m in omega (arith, sound.headers r.0 r.1, r.2)

  pub header-behind : (o : Linked) → Memᴰ o os → 96 ≤ o.address
  header-behind o m = omega (arith, opened-size im s p, behind-superblock im s (room_of lent) os bs walked o.address (member-in os o m))

  -- two objects of one address are the same, since the links to an address are its own; others have headers that share no byte
  pub objects-apart : (o q : Linked) → Memᴰ o os → Memᴰ q os → (o ≡ q) ⊎ Beside o.address 16 q.address 16
  objects-apart o q m n =
      ⊎_elim
      (λ same.
      let first = sound.true_count o m in
      let second = sound.true_count q n in
      let links : o.links ≡ q.links = first ∙ rw same (sym second) in
      inl (same_object o q same links))
      inr (headers-apart im s (room_of lent) os bs walked o.address q.address (member-in os o m) (member-in os q n))

  -- the object that a correction mends
  pub mended : (c : Change) → Memᴰ c (corrections (counted_in im os)) →
      (o : Linked) × Memᴰ o os × (c ≡ change_of (counted_of im o)) × (c.old ≡ c.new → ⊥)
  mended c m =
      let r = correction-from (counted_in im os) c m in
      let q = counted-from im os r.0 r.1.member in
      (q.0, q.1, r.2 ∙ ap change_of q.2, λ same. r.1.differ (ap (λ (x : Change). x.old) (sym r.2) ∙ same ∙ ap (λ (x : Change). x.new) r.2))

  pub audit-fields : Fields im s.end_of_file (corrections (counted_in im os))
  audit-fields = record {
    behind = λ c m. let r = mended c m in omega (arith, ap (λ (x : Change). x.field) r.2, header-behind r.0 r.1);
    inside = λ c m. let r = mended c m in omega (arith, ap (λ (x : Change). x.field) r.2, header-inside r.0 r.1);
    image = λ c m. let r = mended c m in omega (arith, ap (λ (x : Change). x.field) r.2, header-inside r.0 r.1, opened-end im s p);
    stored = λ c m. let r = mended c m in rw r.2;
    wrong = λ c m. (mended c m).3;
    apart = λ c d m n.
        let r = mended c m in
        let q = mended d n in
        ⊎_elim (λ same. inl (r.2 ∙ ap (λ (x : Linked). change_of (counted_of im x)) same ∙ sym q.2))
        (⊎_elim (λ l. inr (inl (omega (arith, ap (λ (x : Change). x.field) r.2, ap (λ (x : Change). x.field) q.2))))
        (λ l. inr (inr (omega (arith, ap (λ (x : Change). x.field) r.2, ap (λ (x : Change). x.field) q.2)))))
        (objects-apart r.0 q.0 r.1 q.1);
  }

  -- the old counts are read from four bytes, and the new ones fit them
  pub audit-small : IsBytes im → Small (corrections (counted_in im os))
  audit-small b = record {
    old = λ c m. rw (audit-fields.stored c m) (count_small im b c.field (omega (arith, audit-fields.image c m)));
    new = λ c m. let r = mended c m in rw r.2 (counts-small im lent s os bs p e r.0 r.1);
  }
