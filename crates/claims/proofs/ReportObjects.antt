-- The object of the block that a report names is the one whose walk is refused.
use Prim.Native.Nat.{ℕ}
use mathlib.Core.List.{List}
use mathlib.Core.Path.{◌≡◌, refl, sym, ◌∙◌}
use Rattle.format.specs.Walk.{Outcome, done, refused}
use Rattle.format.specs.Superblock.{Superblock, opened, open_image}
use Rattle.format.specs.Ledger.{Linked}
use Rattle.format.specs.Answers.{audit}
use Rattle.format.specs.Report.{report_end, report}
use Rattle.links.proofs.BlockWords.{list-holds}
use Rattle.links.proofs.StoppedDamaged.{audit-damaged-object}
use Rattle.claims.specs.Reports.{ObjectNamed}
use Rattle.claims.proofs.ReportEnds.{outcome, report-opened, answers}

pub objects : (im : List ℕ) (lent : ℕ) (s : Superblock) → open_image im ≡ opened s → ((audit im lent).number ≡ 0 → ⊥) → ObjectNamed im lent s
objects im lent s p h = go (outcome im lent s) refl
  where
    go : (o : Outcome (List Linked)) → outcome im lent s ≡ o → ObjectNamed im lent s
    go (done os bs) e =
        let q : report im lent ≡ report_end im lent (done os bs) = rw e at (report-opened im lent s p) in
        absurd (h (sym (answers im lent) ∙ rw q refl))
    go (refused r bs) e =
        let q : report im lent ≡ report_end im lent (refused r bs) = rw e at (report-opened im lent s p) in
        record {
          refusal = r;
          blocks = bs;
          walked = e;
          count = rw q refl;
          list = rw q (list-holds bs _);
          object = rw q (audit-damaged-object im lent s p r bs e);
        }
