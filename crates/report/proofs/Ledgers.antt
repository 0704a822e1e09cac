-- The report with its ledger: an empty one where there are no objects, else the lists, with the addresses copied.
use Prim.Native.Nat.{ℕ, zero, suc, ◌<◌}
use mathlib.Core.List.{List}
use mathlib.Core.Path.{◌≡◌, refl, sym, subst, ◌∙◌}
use native.Mathlib.Omega.{arith}
use lib.ListN.{replicate}
use Rattle.format.specs.Limits.{objects_most}
use Rattle.ledger.specs.Report.{counted_places, Empty, Copied}
use Rattle.ledger.specs.declared.report.Ledger.{Ledger}
use Rattle.ledger.proofs.ReportLaws.{empty-law, counted-copied}
use Rattle.audit.proofs.ReplyLaws.{get_d-zeros}
use Rattle.report.specs.Report.{ReportedIs, ReportIs, reply_with, LedgerOf}
use Rattle.report.specs.declared.Reported.{Reported}
use Rattle.report.specs.declared.Reply.{Reply}

-- the list handed over is the one of which the report is known
pub same-list : (im : List ℕ) (lent : ℕ) (ws ws' addresses stored counts : List ℕ) (r : Reported) → ws' ≡ ws →
    ReportedIs im lent ws addresses stored counts r → ReportedIs im lent ws' addresses stored counts r
same-list im lent ws ws' addresses stored counts r e h = rw e h

module _ (im : List ℕ) (lent : ℕ) (ws addresses stored counts : List ℕ) (r : Reported) (h : ReportedIs im lent ws addresses stored counts r) where
  empty-reply : (l : Ledger) → r.objects ≡ 0 → Empty l → ReportIs im lent ws (reply_with r l)
  unfolding counted_places
  empty-reply l z e =
      let p = h.reply in
      record {
        reply = rw (empty-law l e) (rw z at p);
        fits = omega (arith, e.none);
        addresses_rest = λ k m. rw e.addresses_zero (get_d-zeros objects_most k);
        stored_rest = λ k m. rw e.stored_zero (get_d-zeros objects_most k);
        counts_rest = λ k m. rw e.counts_zero (get_d-zeros objects_most k);
      }

  -- the addresses are copied out of the table
  full-reply : 0 < r.objects → (zeros copy : List ℕ) → zeros ≡ replicate objects_most 0 → Copied addresses zeros r.objects copy →
      ReportIs im lent ws (reply_with r (record { objects = r.objects; addresses = copy; stored = stored; true_counts = counts }))
  full-reply z zeros copy e c = record {
    reply = rw (counted-copied addresses stored counts zeros copy r.objects c) h.reply;
    fits = h.fits;
    addresses_rest = λ k m. c.rest k m ∙ rw e (get_d-zeros objects_most k);
    stored_rest = h.stored_rest z;
    counts_rest = h.counts_rest z;
  }

  -- one or the other
  either : (n : ℕ) (l : Ledger) → r.objects ≡ n → LedgerOf r.objects addresses stored counts l → ReportIs im lent ws (reply_with r l)
  either zero l e k = empty-reply l e (k.none e)
  either (suc n) l e k =
      let some : 0 < r.objects = omega (arith, e) in
      let full = full-reply some (replicate objects_most 0) l.addresses refl (k.copied some) in
      subst (λ (m : Ledger). ReportIs im lent ws (reply_with r m)) (sym (k.filled some)) full

  pub reply-is : (x : Reply) → x ≡ reply_with r x.ledger → LedgerOf r.objects addresses stored counts x.ledger → ReportIs im lent ws x
  reply-is x e k = subst (λ (y : Reply). ReportIs im lent ws y) (sym e) (either r.objects x.ledger refl k)
