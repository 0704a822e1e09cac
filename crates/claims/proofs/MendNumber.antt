-- The mender's number, from the audit's reply and the log's length.
use Prim.Native.Nat.{ℕ, zero, suc, ◌*◌, ◌≤◌, ◌<◌, min}
use mathlib.Core.Bool.{Bool, true, false}
use mathlib.Core.List.{List}
use mathlib.Core.Path.{◌≡◌, refl}
use native.Mathlib.Omega.{arith}
use borrow.Author.Tests.{le-leb, lt-leb, leb-false}
use lib.Dec.{leb}
use Rattle.std.specs.Prelude.{if◌then◌else◌}
use Rattle.format.specs.Mend.{corrections}
use Rattle.format.specs.Answers.{audit, mended_by, not_mended, mend_after, mend}
use Rattle.links.proofs.AuditAnswers.{audit-answers}
use Rattle.claims.specs.Demand3.{wrong_counts, MendNumber}

module _ (im : List ℕ) (lent log_lent n : ℕ) where
  mend-accepted : (audit im lent).number ≡ 0 → 2 * wrong_counts im lent ≤ log_lent → (mend im lent log_lent n).number ≡ 0
  unfolding mend
  mend-accepted z l = rw (z, le-leb _ _ l)

  mend-short : (audit im lent).number ≡ 0 → log_lent < 2 * wrong_counts im lent → (mend im lent log_lent n).number ≡ 18
  unfolding mend
  mend-short z l = rw (z, lt-leb _ _ l)

  mend-refused : ((audit im lent).number ≡ 0 → ⊥) → (mend im lent log_lent n).number ≡ (audit im lent).number
  unfolding mend
  mend-refused = go (audit im lent).number
    where
      go : (k : ℕ) → (k ≡ 0 → ⊥) → (mend_after im lent log_lent n k (audit im lent)).number ≡ k
      go zero h = absurd (h refl)
      go (suc k) h = refl

  mend-only-short : (mend im lent log_lent n).number ≡ 18 → ((audit im lent).number ≡ 0) × (log_lent < 2 * wrong_counts im lent)
  unfolding mend
  mend-only-short = go (audit im lent).number refl
    where
      go : (k : ℕ) → (audit im lent).number ≡ k → (mend_after im lent log_lent n k (audit im lent)).number ≡ 18 →
          ((audit im lent).number ≡ 0) × (log_lent < 2 * wrong_counts im lent)
      go zero e q = fits (leb (2 * wrong_counts im lent) log_lent) refl q
        where
          fits : (t : Bool) → leb (2 * wrong_counts im lent) log_lent ≡ t →
              (if t then mended_by im log_lent (audit im lent) (corrections (audit im lent).objects) (min n (wrong_counts im lent))
              else not_mended im lent log_lent 18 0).number ≡ 18 →
              ((audit im lent).number ≡ 0) × (log_lent < 2 * wrong_counts im lent)
          fits true l z = absurd (omega arith)
          fits false l z = (e, leb-false _ _ l)
      go (suc k) e q = absurd (omega (arith, audit-answers im lent))

  pub mend-number : MendNumber im lent log_lent n
  mend-number = record { accepted = mend-accepted; short = mend-short; refused = mend-refused; only_short = mend-only-short }
