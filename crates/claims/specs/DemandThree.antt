-- Demand 3: "Mender and undo do exactly what 01 defines: after a mend every lookup and description answers as before, only wrong count fields differ, a full
-- mend audits clean; after any list of undo calls still only those fields differ, and one full undo gives the old image back." Of every mend of an
-- image of bytes, in the library and in C.
use Rattle.std.specs.Prelude.{ℕ, ◌*◌, ◌/◌, ◌≤◌, List, ◌≡◌}
use Rattle.format.specs.Answers.{audit}
use Rattle.format.specs.Front.{c_mend}
use Rattle.demand.specs.Bytes.{IsBytes}
use Rattle.claims.specs.Demand3.{wrong_counts, MendNumber, Demand3Due}
use Rattle.claims.specs.CDemand3.{CDemand3}

pub record DemandThree : Type 0 where
  -- the audit's number, 0 or 18, for each mend
  pub numbers : (im : List ℕ) (lent log_lent n : ℕ) → MendNumber im lent log_lent n
  -- an image that the audit accepts is mended, with a log that holds every wrong count; then the mend and any list of undo calls
  pub due : (im : List ℕ) (lent log_lent n : ℕ) → IsBytes im → (audit im lent).number ≡ 0 → 2 * wrong_counts im lent ≤ log_lent →
      Demand3Due im lent log_lent n
  -- in C, with slices of l, g and r bytes for the list, the log and the reply: done, if three words fit the reply and the log holds every wrong count
  pub done_in_c : (im : List ℕ) (l g r n : ℕ) → IsBytes im → (audit im (l / 8)).number ≡ 0 → 16 * wrong_counts im (l / 8) ≤ g → 24 ≤ r →
      (c_mend im l g r n).number ≡ 0
  -- every mend in C, done or refused, and any list of undo calls
  pub in_c : (im : List ℕ) (l g r n : ℕ) → IsBytes im → CDemand3 im l g r n (c_mend im l g r n)
