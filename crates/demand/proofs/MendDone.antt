-- A mend that is done: an audit that is done, a log that holds all corrections, and the first of them written.
use Prim.Native.Nat.{ℕ, zero, suc, ◌*◌, ◌≤◌, min}
use mathlib.Core.Bool.{Bool, true, false}
use mathlib.Core.List.{List}
use mathlib.Core.Path.{◌≡◌, refl}
use native.Mathlib.Omega.{arith}
use borrow.Author.Tests.{leb-true}
use lib.Dec.{leb}
use lib.ListN.{length}
use Rattle.std.specs.Prelude.{if◌then◌else◌}
use Rattle.format.specs.Log.{Change}
use Rattle.format.specs.Mend.{corrections}
use Rattle.format.specs.Answers.{audit, not_mended, mended_by, mend_after, mend}

module _ (im : List ℕ) (lent log_lent n : ℕ) where
  abbrev wrongs : List Change
  wrongs = corrections (audit im lent).objects

  pub record Mended : Type 0 where
    pub audited : (audit im lent).number ≡ 0
    pub room : 2 * length wrongs ≤ log_lent
    pub reply : mend im lent log_lent n ≡ mended_by im log_lent (audit im lent) wrongs (min n (length wrongs))

  pub mend-done : (mend im lent log_lent n).number ≡ 0 → Mended
  unfolding mend
  mend-done = go (audit im lent).number refl
    where
      go : (k : ℕ) → (audit im lent).number ≡ k → (mend_after im lent log_lent n k (audit im lent)).number ≡ 0 → Mended
      go zero e z = fits (leb (2 * length wrongs) log_lent) refl z
        where
          fits : (t : Bool) → leb (2 * length wrongs) log_lent ≡ t →
              (if t then mended_by im log_lent (audit im lent) wrongs (min n (length wrongs)) else not_mended im lent log_lent 18 0).number ≡ 0 → Mended
          fits true l q = record { audited = e; room = leb-true _ _ l; reply = rw (e, l) }
          fits false l q = absurd (omega arith)
      go (suc k) e z = absurd (omega arith)

  -- a mend that is refused changes nothing, and its log is empty
  pub mend-refused : ((mend im lent log_lent n).number ≡ 0 → ⊥) →
      mend im lent log_lent n ≡ not_mended im lent log_lent (mend im lent log_lent n).number (mend im lent log_lent n).met
  unfolding mend
  mend-refused = go (audit im lent).number
    where
      go : (k : ℕ) → ((mend_after im lent log_lent n k (audit im lent)).number ≡ 0 → ⊥) →
          mend_after im lent log_lent n k (audit im lent) ≡
          not_mended im lent log_lent (mend_after im lent log_lent n k (audit im lent)).number (mend_after im lent log_lent n k (audit im lent)).met
      go zero z = fits (leb (2 * length wrongs) log_lent) z
        where
          fits : (t : Bool) →
              ((if t then mended_by im log_lent (audit im lent) wrongs (min n (length wrongs)) else not_mended im lent log_lent 18 0).number ≡ 0 → ⊥) →
              (if t then mended_by im log_lent (audit im lent) wrongs (min n (length wrongs)) else not_mended im lent log_lent 18 0) ≡
              not_mended im lent log_lent
              (if t then mended_by im log_lent (audit im lent) wrongs (min n (length wrongs)) else not_mended im lent log_lent 18 0).number
              (if t then mended_by im log_lent (audit im lent) wrongs (min n (length wrongs)) else not_mended im lent log_lent 18 0).met
          fits true q = absurd (q refl)
          fits false q = refl
      go (suc k) z = refl
