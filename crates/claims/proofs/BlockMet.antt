-- The block met, of the replies: with 6 the first block that its fault meets, with any other number 0.
use Prim.Native.Nat.{ℕ, zero, suc, ◌*◌}
use mathlib.Core.Bool.{Bool, true, false}
use mathlib.Core.List.{List}
use mathlib.Core.Path.{◌≡◌, refl, ◌∙◌}
use native.Mathlib.Omega.{arith}
use lib.Dec.{leb}
use lib.ListN.{length}
use Rattle.std.specs.Prelude.{if◌then◌else◌}
use Rattle.format.specs.Blocks.{Block}
use Rattle.format.specs.declared.Refusal.{Refusal}
use Rattle.format.specs.Walk.{met_of, Outcome, done, refused}
use Rattle.format.specs.Ledger.{Linked}
use Rattle.format.specs.Audit.{audit_run}
use Rattle.format.specs.Dataset.{Dataset}
use Rattle.format.specs.Lookup.{Located, lookup_run}
use Rattle.format.specs.Describe.{describe_run}
use Rattle.format.specs.Mend.{corrections}
use Rattle.format.specs.Answers.{MendReply, audit_end, audit, lookup_end, lookup, describe_end, describe, mended_by, not_mended, mend_after, mend}
use Rattle.links.specs.Fault.{AuditFault}
use Rattle.links.specs.FirstMet.{GivesMet}
use Rattle.links.proofs.ReplyNumbers.{number_of, audit-reply-number, lookup-reply-number, describe-reply-number}
use Rattle.links.proofs.RefusedFault.{audit-refused-fault}
use Rattle.links.proofs.AuditMet.{audit-met}
use Rattle.found.specs.PathFault.{LookupFault, DescribeFault}
use Rattle.found.proofs.PathRefused.{lookup-refused-fault, describe-refused-fault}
use Rattle.found.proofs.PathMet.{lookup-met, describe-met}
use Rattle.claims.specs.Zeros.{OnlyWithSix}
use Rattle.claims.specs.Owners.{MetBy}

-- the block met of an outcome
abbrev block_met : {A : Type 0} → Outcome A → ℕ
block_met (done a bs) = 0
block_met (refused r bs) = met_of r

audit-block-met : (im : List ℕ) (lent : ℕ) → (audit im lent).met ≡ block_met (audit_run im lent)
unfolding audit
audit-block-met im lent = go (audit_run im lent)
  where
    go : (o : Outcome (List Linked)) → (audit_end im lent o).met ≡ block_met o
    go (done os bs) = refl
    go (refused r bs) = refl

lookup-block-met : (im path : List ℕ) (lent : ℕ) → (lookup im path lent).met ≡ block_met (lookup_run im path lent)
unfolding lookup
lookup-block-met im path lent = go (lookup_run im path lent)
  where
    go : (o : Outcome Located) → (lookup_end lent o).met ≡ block_met o
    go (done p bs) = refl
    go (refused r bs) = refl

describe-block-met : (im path : List ℕ) (lent : ℕ) → (describe im path lent).met ≡ block_met (describe_run im path lent)
unfolding describe
describe-block-met im path lent = go (describe_run im path lent)
  where
    go : (o : Outcome Dataset) → (describe_end lent o).met ≡ block_met o
    go (done d bs) = refl
    go (refused r bs) = refl

-- an outcome whose refusals are faults that give the block met
module _ {A : Type 0} (o : Outcome A) (F : Refusal → List Block → Type 0) (faults : (r : Refusal) (bs : List Block) → o ≡ refused r bs → F r bs)
    (gives : (r : Refusal) (bs : List Block) → F r bs → GivesMet r bs) where
  only-six : OnlyWithSix (number_of o) (block_met o)
  only-six = go o refl
    where
      go : (p : Outcome A) → o ≡ p → (number_of p ≡ 6 → ⊥) → block_met p ≡ 0
      go (done a bs) e h = refl
      go (refused r bs) e h = (gives r bs (faults r bs e)).other h

  met_by : number_of o ≡ 6 → MetBy F (block_met o)
  met_by = go o refl
    where
      go : (p : Outcome A) → o ≡ p → number_of p ≡ 6 → MetBy F (block_met p)
      go (done a bs) e six = absurd (omega (arith, six))
      go (refused r bs) e six = let f = faults r bs e in (r, bs, f, (gives r bs f).six six, refl)

module _ (im : List ℕ) (lent : ℕ) where
  pub audit-only-six : OnlyWithSix (audit im lent).number (audit im lent).met
  audit-only-six =
      rw (audit-reply-number im lent, audit-block-met im lent)
      (only-six (audit_run im lent) (AuditFault im lent) (λ r bs. audit-refused-fault im lent r bs) (audit-met im lent))

  pub audit-met-by : (audit im lent).number ≡ 6 → MetBy (AuditFault im lent) (audit im lent).met
  audit-met-by =
      rw (audit-reply-number im lent, audit-block-met im lent)
      (met_by (audit_run im lent) (AuditFault im lent) (λ r bs. audit-refused-fault im lent r bs) (audit-met im lent))

module _ (im path : List ℕ) (lent : ℕ) where
  pub lookup-only-six : OnlyWithSix (lookup im path lent).number (lookup im path lent).met
  lookup-only-six =
      rw (lookup-reply-number im path lent, lookup-block-met im path lent)
      (only-six (lookup_run im path lent) (LookupFault im path lent) (λ r bs. lookup-refused-fault im path lent r bs) (lookup-met im path lent))

  pub lookup-met-by : (lookup im path lent).number ≡ 6 → MetBy (LookupFault im path lent) (lookup im path lent).met
  lookup-met-by =
      rw (lookup-reply-number im path lent, lookup-block-met im path lent)
      (met_by (lookup_run im path lent) (LookupFault im path lent) (λ r bs. lookup-refused-fault im path lent r bs) (lookup-met im path lent))

  pub describe-only-six : OnlyWithSix (describe im path lent).number (describe im path lent).met
  describe-only-six =
      rw (describe-reply-number im path lent, describe-block-met im path lent)
      (only-six (describe_run im path lent) (DescribeFault im path lent) (λ r bs. describe-refused-fault im path lent r bs) (describe-met im path lent))

  pub describe-met-by : (describe im path lent).number ≡ 6 → MetBy (DescribeFault im path lent) (describe im path lent).met
  describe-met-by =
      rw (describe-reply-number im path lent, describe-block-met im path lent)
      (met_by (describe_run im path lent) (DescribeFault im path lent) (λ r bs. describe-refused-fault im path lent r bs) (describe-met im path lent))

-- a mend gives the audit's block where it has the audit's number
module _ (im : List ℕ) (lent log_lent n : ℕ) where
  -- after an audit that is done
  abbrev after_done : Bool → ℕ → MendReply
  after_done t w = if t then mended_by im log_lent (audit im lent) (corrections (audit im lent).objects) w else not_mended im lent log_lent 18 0

  pub mend-only-six : OnlyWithSix (mend im lent log_lent n).number (mend im lent log_lent n).met
  unfolding mend
  mend-only-six = go (audit im lent).number (audit-only-six im lent)
    where
      fits : (t : Bool) (w : ℕ) → (after_done t w).met ≡ 0
      fits true w = refl
      fits false w = refl

      go : (k : ℕ) → OnlyWithSix k (audit im lent).met →
          OnlyWithSix (mend_after im lent log_lent n k (audit im lent)).number (mend_after im lent log_lent n k (audit im lent)).met
      go zero h = λ _. fits (leb (2 * length (corrections (audit im lent).objects)) log_lent) _
      go (suc k) h = h

  -- 6 is the audit's
  mend-six-audit : (mend im lent log_lent n).number ≡ 6 → ((audit im lent).number ≡ 6) × ((audit im lent).met ≡ (mend im lent log_lent n).met)
  unfolding mend
  mend-six-audit = go (audit im lent).number refl
    where
      fits : (t : Bool) (w : ℕ) → (after_done t w).number ≡ 6 → ⊥
      fits true w q = omega (arith, q)
      fits false w q = omega (arith, q)

      go : (k : ℕ) → (audit im lent).number ≡ k → (mend_after im lent log_lent n k (audit im lent)).number ≡ 6 →
          ((audit im lent).number ≡ 6) × ((audit im lent).met ≡ (mend_after im lent log_lent n k (audit im lent)).met)
      go zero e six = absurd (fits (leb (2 * length (corrections (audit im lent).objects)) log_lent) _ six)
      go (suc k) e six = (e ∙ six, refl)

  pub mend-met-by : (mend im lent log_lent n).number ≡ 6 → MetBy (AuditFault im lent) (mend im lent log_lent n).met
  mend-met-by six = let a = mend-six-audit six in rw a.1 at (audit-met-by im lent a.0)
