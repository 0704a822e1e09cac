-- Demand 3 for every image that the audit accepts and every log that holds its wrong counts.
use Rattle.std.specs.Prelude.{ℕ, ◌*◌, ◌≤◌, ◌<◌, List, ◌≡◌, length}
use Rattle.format.specs.Mend.{corrections}
use Rattle.format.specs.Answers.{audit, mend}
use Rattle.demand.specs.Demand3.{Demand3}

-- the number of wrong counts that an audit reports
abbrev pub wrong_counts : List ℕ → ℕ → ℕ
wrong_counts im lent = length (corrections (audit im lent).objects)

-- a mender's number: "18 exactly if the log can't hold them all", else the audit's
pub record MendNumber (im : List ℕ) (lent log_lent n : ℕ) : Type 0 where
  pub accepted : (audit im lent).number ≡ 0 → 2 * wrong_counts im lent ≤ log_lent → (mend im lent log_lent n).number ≡ 0
  pub short : (audit im lent).number ≡ 0 → log_lent < 2 * wrong_counts im lent → (mend im lent log_lent n).number ≡ 18
  pub refused : ((audit im lent).number ≡ 0 → ⊥) → (mend im lent log_lent n).number ≡ (audit im lent).number
  pub only_short : (mend im lent log_lent n).number ≡ 18 → ((audit im lent).number ≡ 0) × (log_lent < 2 * wrong_counts im lent)

-- of a mend of an accepted image, with a log that holds every wrong count
pub record Demand3Due (im : List ℕ) (lent log_lent n : ℕ) : Type 0 where
  pub mended : (mend im lent log_lent n).number ≡ 0
  pub entries : (mend im lent log_lent n).entries ≡ wrong_counts im lent
  -- after the mend and any list of undo calls; a full mend audits to the old reply with the true counts stored
  pub due : Demand3 im lent n (mend im lent log_lent n)
