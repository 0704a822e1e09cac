-- What is said of every report.
use Prim.Native.Nat.{ℕ, ◌/◌}
use mathlib.Core.List.{List}
use mathlib.Core.Logic.{⊎_elim}
use mathlib.Core.Path.{◌≡◌, refl, ◌∙◌}
use native.Mathlib.Omega.{arith}
use borrow.Author.Tests.{le-leb, lt-leb}
use Rattle.format.specs.declared.Refusal.TheVariants.{Fault, NotEntered}
use Rattle.format.specs.Walk.{Outcome, done, refused}
use Rattle.format.specs.Superblock.{Superblock, Opening, opened, not_opened, open_image}
use Rattle.format.specs.Ledger.{Linked}
use Rattle.format.specs.Answers.{audit}
use Rattle.format.specs.Report.{report_end, report, c_report}
use Rattle.links.proofs.PlacedAudit.{audit-stopped}
use Rattle.claims.specs.Reports.{length_report, Reports}
use Rattle.claims.proofs.ReportEnds.{outcome, report-opened, report-unopened, answers, mets, sound, own-numbers}
use Rattle.claims.proofs.ReportFaults.{faults, unopened-named}
use Rattle.claims.proofs.ReportEntries.{entries}
use Rattle.claims.proofs.ReportSame.{agree}
use Rattle.claims.proofs.ReportObjects.{objects}
use Rattle.claims.proofs.ReportWords.{c-lists, c-words}

-- 1 is the answer to an image's length alone
not-one : (im : List ℕ) (lent : ℕ) (s : Superblock) → open_image im ≡ opened s → (o : Outcome (List Linked)) → outcome im lent s ≡ o →
    (report_end im lent o).answer ≡ 1 → ⊥
not-one im lent s p (done os bs) e one = omega (arith, one)
not-one im lent s p (refused (Fault n at) bs) e one = (own-numbers im lent s (Fault n at) bs e).1 one
not-one im lent s p (refused (NotEntered n kind a size met) bs) e one =
    let entry = audit-stopped im lent s p (NotEntered n kind a size met) bs e in
    ⊎_elim (λ q. omega (arith, q, one)) (⊎_elim (λ q. omega (arith, q, one)) (λ q. omega (arith, q, one))) entry.numbers

lengths : (im : List ℕ) (lent : ℕ) → (audit im lent).number ≡ 1 → report im lent ≡ length_report lent
lengths im lent one = go (open_image im) refl
  where
    same : (report im lent).answer ≡ 1
    same = answers im lent ∙ one

    go : (o : Opening) → open_image im ≡ o → report im lent ≡ length_report lent
    go (opened s) p = absurd (not-one im lent s p (outcome im lent s) refl (rw (report-opened im lent s p) at same))
    go (not_opened n) p =
        let q = report-unopened im lent n p in
        let is : n ≡ 1 = rw q at same in
        q ∙ rw is refl

pub all-reports : Reports
unfolding c_report
all-reports = record {
  answers = answers;
  mets = mets;
  sound = sound;
  lengths = lengths;
  faults = faults;
  unopened = unopened-named;
  entries = entries;
  objects = objects;
  agree = agree;
  c_numbers = λ im l r h. rw (le-leb 8 (r / 8) h);
  c_short = λ im l r h. rw (lt-leb 8 (r / 8) h);
  c_lists = c-lists;
  c_replies = c-words;
}
