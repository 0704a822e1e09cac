-- Images that show the audit the same give the same report, but for the stored counts.
use Prim.Native.Nat.{ℕ}
use mathlib.Core.List.{List, [], ◌∷◌}
use mathlib.Core.Path.{◌≡◌, refl, ap, ◌∙◌}
use Rattle.format.specs.Blocks.{room_of}
use Rattle.format.specs.Walk.{Outcome, done, refused}
use Rattle.format.specs.Superblock.{Opening, opened, not_opened, open_image}
use Rattle.format.specs.Ledger.{Linked}
use Rattle.format.specs.Audit.{counted_in, audit_walk}
use Rattle.format.specs.Report.{report_end, report_opened, report}
use Rattle.laws.proofs.Agreement.{run_agree}
use Rattle.claims.specs.Reports.{true_counts, without_stored, ShowSame}
use Rattle.claims.proofs.ReportEnds.{outcome}

module _ (im im' : List ℕ) (lent : ℕ) where
  same-counts : (os : List Linked) → true_counts (counted_in im os) ≡ true_counts (counted_in im' os)
  unfolding counted_in true_counts
  same-counts [] = refl
  same-counts (o ∷ os) = rw (same-counts os) refl

  same_end : (o : Outcome (List Linked)) → without_stored (report_end im lent o) ≡ without_stored (report_end im' lent o)
  same_end (done os bs) = rw (same-counts os) refl
  same_end (refused r bs) = refl

  pub agree : ShowSame im im' lent → without_stored (report im lent) ≡ without_stored (report im' lent)
  unfolding report
  agree h = rw (← h.openings) (go (open_image im) refl)
    where
      go : (o : Opening) → open_image im ≡ o → without_stored (report_opened im lent o) ≡ without_stored (report_opened im' lent o)
      go (opened s) p =
          same_end (outcome im lent s)
          ∙ ap (λ (o : Outcome (List Linked)). without_stored (report_end im' lent o))
          (run_agree im im' s.end_of_file (room_of lent) (audit_walk s) [] (h.walks s p))
      go (not_opened n) p = refl
