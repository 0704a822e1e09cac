-- A report of a block that can't be entered: 5, 6 and 13.
use Prim.Native.Nat.{ℕ, ◌+◌, ◌*◌, ◌<◌}
use mathlib.Core.Bool.{false}
use mathlib.Core.List.{List, [], ◌∷◌}
use mathlib.Core.Logic.{⊎_elim, inr}
use mathlib.Core.Path.{◌≡◌, refl, ap, sym, ◌∙◌}
use native.Mathlib.Omega.{arith}
use lib.ListN.{length, get_or, length-append, get_or-append}
use lib.Seq.{get_or-append_seam}
use Rattle.format.specs.Blocks.{Block, block, overlaps, overlaps_any, block_list, room_of}
use Rattle.format.specs.declared.Refusal.{Refusal}
use Rattle.format.specs.declared.Refusal.TheVariants.{Fault, NotEntered}
use Rattle.format.specs.Walk.{Outcome, done, refused}
use Rattle.format.specs.Superblock.{Superblock, opened, open_image}
use Rattle.format.specs.Ledger.{Linked}
use Rattle.format.specs.Audit.{audit_walk}
use Rattle.format.specs.Report.{report_end, report}
use Rattle.links.specs.FirstMet.{FirstMet, GivesMet}
use Rattle.links.proofs.RefusedFault.{refused-fault}
use Rattle.links.proofs.AuditMet.{audit-met}
use Rattle.links.proofs.BlocksBefore.{inside-at, apart-at}
use Rattle.links.proofs.PlacedAudit.{audit-stopped, audit-placed}
use Rattle.claims.specs.Reports.{FirstOfList, EntryNamed, AtEntry}
use Rattle.claims.proofs.DamagedBlock.{four-at, four-overlaps}
use Rattle.claims.proofs.ReportEnds.{outcome, report-opened, blocks-inside, blocks-fit, own-numbers}

-- a block that shares no byte with a list shares none with a four of it
four-apart : (lent : ℕ) (bs : List Block) (a n k : ℕ) → overlaps_any bs a n ≡ false → k < length bs →
    overlaps (block (get_or (block_list lent bs) (4 * k) 0) (get_or (block_list lent bs) (4 * k + 1) 0)) a n ≡ false
four-apart lent bs a n k e l = four-overlaps lent bs a n k l ∙ apart-at bs a n k e l

module _ (im : List ℕ) (lent n kind a size met : ℕ) (bs : List Block) where
  pub first-named : FirstMet (NotEntered n kind a size met) bs → FirstOfList (report_end im lent (refused (NotEntered n kind a size met) bs))
  first-named f =
      let at : a ≡ f.at = cc f.refusal in
      let long : size ≡ f.size = cc f.refusal in
      let first : met ≡ f.block.at = cc f.refusal in
      let k = length f.before in
      let count : length bs ≡ k + length (f.block ∷ f.after) = ap length f.all ∙ length-append f.before (f.block ∷ f.after) in
      let here : get_or bs k (block 0 0) ≡ f.block =
      ap (λ (l : List Block). get_or l k (block 0 0)) f.all ∙ get_or-append_seam f.before f.block f.after (block 0 0) in
      let counted : k < length bs = omega (arith, count) in
      let before : (j : ℕ) → j < k → get_or bs j (block 0 0) ≡ get_or f.before j (block 0 0) =
      λ j l. ap (λ (q : List Block). get_or q j (block 0 0)) f.all ∙ get_or-append f.before (f.block ∷ f.after) (block 0 0) j l in
      let none : (j : ℕ) → j < k → overlaps (get_or bs j (block 0 0)) a size ≡ false =
      λ j l. rw (before j l, at, long) (apart-at f.before _ _ j f.first l) in
      record {
        number = k;
        counted = counted;
        met = (four-at lent bs k counted).address ∙ ap (λ (b : Block). b.at) here ∙ sym first;
        meets = four-overlaps lent bs a size k counted ∙ rw (here, at, long) f.meets;
        first = λ j l. four-overlaps lent bs a size j (omega (arith, l, counted)) ∙ none j l;
      }

module _ (im : List ℕ) (lent : ℕ) (s : Superblock) (p : open_image im ≡ opened s) where
  pub gives-met : (r : Refusal) (bs : List Block) → outcome im lent s ≡ refused r bs → GivesMet r bs
  gives-met r bs e = audit-met im lent r bs (inr (s, p, refused-fault im s.end_of_file (room_of lent) (audit_walk s) [] r bs e))

  pub entry_named : (n kind a size met : ℕ) (bs : List Block) → outcome im lent s ≡ refused (NotEntered n kind a size met) bs →
      EntryNamed s lent (report_end im lent (refused (NotEntered n kind a size met) bs))
  entry_named n kind a size met bs e =
      let r = NotEntered n kind a size met in
      let entry = audit-stopped im lent s p r bs e in
      let within = blocks-inside im lent s r bs e in
      record {
        place = refl;
        outside = entry.outside;
        list_inside = λ k l. let f = four-at lent bs k l in omega (arith, f.address, f.size, inside-at s.end_of_file bs k within l);
        meets = λ six. first-named im lent n kind a size met bs ((gives-met r bs e).six six);
        full = λ h. omega (arith, entry.full h, blocks-fit im lent s r bs e);
        apart = λ h k l. four-apart lent bs a size k (entry.apart h) l;
      }

  by_end : (o : Outcome (List Linked)) → outcome im lent s ≡ o → AtEntry (report_end im lent o).answer → EntryNamed s lent (report_end im lent o)
  by_end (done os bs) e h = absurd (⊎_elim (λ q. omega (arith, q)) (⊎_elim (λ q. omega (arith, q)) (λ q. omega (arith, q))) h)
  by_end (refused (Fault n at) bs) e h =
      let own = own-numbers im lent s (Fault n at) bs e in
      absurd (⊎_elim own.2 (⊎_elim own.3 (audit-placed im lent s p n at bs e).1) h)
  by_end (refused (NotEntered n kind a size met) bs) e h = entry_named n kind a size met bs e

  pub entries : AtEntry (report im lent).answer → EntryNamed s lent (report im lent)
  entries h =
      let q = report-opened im lent s p in
      rw q (by_end (outcome im lent s) refl (rw q at h))
