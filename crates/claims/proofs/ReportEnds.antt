-- The report, by how the image is opened and how its walk ends.
use Prim.Native.Nat.{ℕ, ◌≤◌}
use mathlib.Core.Bool.{true, false}
use mathlib.Core.List.{List, []}
use mathlib.Core.Path.{◌≡◌, refl}
use native.Mathlib.Omega.{arith}
use borrow.Author.Tests.{eqb-false, leb-true}
use lib.Dec.{eqb, leb}
use lib.ListN.{length}
use Rattle.format.specs.Blocks.{Block, room_of}
use Rattle.format.specs.declared.Refusal.{Refusal}
use Rattle.format.specs.Walk.{Outcome, done, refused, run}
use Rattle.format.specs.Superblock.{Superblock, Opening, opened, not_opened, open_image, run_opened}
use Rattle.format.specs.Ledger.{Linked}
use Rattle.format.specs.Audit.{audit_walk, audit_run}
use Rattle.format.specs.Answers.{audit_end, audit}
use Rattle.format.specs.Report.{report_end, unopened, report_opened, report}
use Rattle.laws.specs.Blocks.{Inside}
use Rattle.laws.proofs.Growth.{Grown, run-grown}
use Rattle.links.specs.Owners.{OneOwner}
use Rattle.links.proofs.RefusedFault.{refused-fault}
use Rattle.links.proofs.AuditOwned.{left-one-owner}
use Rattle.links.proofs.AuditSound.{audit-opened}
use Rattle.links.proofs.AuditAnswers.{audit-zero}
use Rattle.links.proofs.NumberedAudit.{audit-numbered}
use Rattle.links.proofs.BlocksBefore.{OfFault, fault-number}
use Rattle.claims.specs.Reports.{sound_report}

-- the audit's walk of an opened image
abbrev pub outcome : List ℕ → ℕ → Superblock → Outcome (List Linked)
outcome im lent s = run im s.end_of_file (room_of lent) (audit_walk s) []

pub report-opened : (im : List ℕ) (lent : ℕ) (s : Superblock) → open_image im ≡ opened s → report im lent ≡ report_end im lent (outcome im lent s)
unfolding report
report-opened im lent s p = rw p

pub report-unopened : (im : List ℕ) (lent n : ℕ) → open_image im ≡ not_opened n → report im lent ≡ unopened lent n
unfolding report
report-unopened im lent n p = rw p

same_answer : (im : List ℕ) (lent : ℕ) (o : Outcome (List Linked)) → (report_end im lent o).answer ≡ (audit_end im lent o).number
same_answer im lent (done os bs) = refl
same_answer im lent (refused r bs) = refl

pub answers : (im : List ℕ) (lent : ℕ) → (report im lent).answer ≡ (audit im lent).number
unfolding report audit audit_run
answers im lent = go (open_image im)
  where
    go : (o : Opening) → (report_opened im lent o).answer ≡ (audit_end im lent (run_opened o (outcome im lent))).number
    go (opened s) = same_answer im lent (outcome im lent s)
    go (not_opened n) = refl

same_met : (im : List ℕ) (lent : ℕ) (o : Outcome (List Linked)) → (report_end im lent o).met ≡ (audit_end im lent o).met
same_met im lent (done os bs) = refl
same_met im lent (refused r bs) = refl

pub mets : (im : List ℕ) (lent : ℕ) → (report im lent).met ≡ (audit im lent).met
unfolding report audit audit_run
mets im lent = go (open_image im)
  where
    go : (o : Opening) → (report_opened im lent o).met ≡ (audit_end im lent (run_opened o (outcome im lent))).met
    go (opened s) = same_met im lent (outcome im lent s)
    go (not_opened n) = refl

pub sound : (im : List ℕ) (lent : ℕ) → (audit im lent).number ≡ 0 → report im lent ≡ sound_report im lent
unfolding report audit
sound im lent z =
    let a = audit-zero im lent z in
    let o = audit-opened im lent a.0 a.1 a.2 in
    rw (o.1, o.2, a.2) refl

-- The blocks of a walk that is refused: they lie inside, share no byte, and are no more than the room.
module _ (im : List ℕ) (lent : ℕ) (s : Superblock) (r : Refusal) (bs : List Block) (e : outcome im lent s ≡ refused r bs) where
  grown : Grown s.end_of_file (room_of lent) [] bs
  grown = rw e at (run-grown im s.end_of_file (room_of lent) (audit_walk s) [] (omega arith))

  pub blocks-inside : Inside s.end_of_file bs
  blocks-inside = rw (← grown.all) at grown.inside

  pub blocks-fit : length bs ≤ room_of lent
  blocks-fit = grown.fits

  pub blocks-apart : OneOwner bs
  blocks-apart = rw e at (left-one-owner im s.end_of_file (room_of lent) (audit_walk s))

-- a walk's own faults have numbers up to 13, and none of these
abbrev Own : ℕ → Type 0
Own n = (n ≡ 0 → ⊥) × (n ≡ 1 → ⊥) × (n ≡ 5 → ⊥) × (n ≡ 6 → ⊥) × (n ≤ 13)

own : (n : ℕ) → eqb n 0 ≡ false → eqb n 1 ≡ false → eqb n 5 ≡ false → eqb n 6 ≡ false → leb n 13 ≡ true → Own n
own n p q u v w = (eqb-false n 0 p, eqb-false n 1 q, eqb-false n 5 u, eqb-false n 6 v, leb-true n 13 w)

pub own-numbers : (im : List ℕ) (lent : ℕ) (s : Superblock) (r : Refusal) (bs : List Block) → outcome im lent s ≡ refused r bs → OfFault Own r
own-numbers im lent s r bs e =
    let walk = audit-numbered Own (own 3 refl refl refl refl refl) (own 7 refl refl refl refl refl) (own 8 refl refl refl refl refl)
    (own 9 refl refl refl refl refl) (own 10 refl refl refl refl refl) (own 11 refl refl refl refl refl) (own 12 refl refl refl refl refl)
    (own 13 refl refl refl refl refl) s in
    fault-number Own im s.end_of_file (room_of lent) walk (refused-fault im s.end_of_file (room_of lent) (audit_walk s) [] r bs e)
