-- Demand 1, of the numbers in C: "Under 770, 3 or 1 words gives 13 first, in C only", "C's 770 words become 3,074". With room for its reply a call
-- gives the library's number, for the whole words of its slices. So what is said of the library's numbers holds of these.
use Rattle.std.specs.Prelude.{ℕ, ◌+◌, ◌*◌, ◌/◌, ◌≤◌, ◌<◌, List, ◌≡◌, length}
use Rattle.format.specs.Limits.{objects_most, rank_most}
use Rattle.format.specs.Bytes.{to_words}
use Rattle.format.specs.Answers.{audit, lookup, describe, mend, undo}
use Rattle.format.specs.Front.{c_audit, c_lookup, c_describe, c_mend, c_undo}
use Rattle.claims.specs.Zeros.{c_zeros, c_mend_zeros, c_undo_zeros}

-- the words that each reply needs
abbrev pub audit_least : ℕ
audit_least = 2 + 3 * objects_most

abbrev pub describe_least : ℕ
describe_least = 10 + 2 * rank_most

-- with slices of l, g and r bytes for the list, the log and the reply
pub record CNumbers : Type 0 where
  pub audits : (im : List ℕ) (l r : ℕ) → audit_least ≤ r / 8 → (c_audit im l r).number ≡ (audit im (l / 8)).number
  pub lookups : (im path : List ℕ) (l r : ℕ) → 3 ≤ r / 8 → (c_lookup im path l r).number ≡ (lookup im path (l / 8)).number
  pub descriptions : (im path : List ℕ) (l r : ℕ) → describe_least ≤ r / 8 → (c_describe im path l r).number ≡ (describe im path (l / 8)).number
  pub mends : (im : List ℕ) (l g r n : ℕ) → 3 ≤ r / 8 → (c_mend im l g r n).number ≡ (mend im (l / 8) (g / 8) n).number
  pub undos : (im log : List ℕ) (r e n : ℕ) → 1 ≤ r / 8 → (c_undo im log r e n).number ≡ (undo im (to_words (length log / 8) log) e n).number
  pub short_audits : (im : List ℕ) (l r : ℕ) → r / 8 < audit_least → c_audit im l r ≡ c_zeros l r 13
  pub short_lookups : (im path : List ℕ) (l r : ℕ) → r / 8 < 3 → c_lookup im path l r ≡ c_zeros l r 13
  pub short_descriptions : (im path : List ℕ) (l r : ℕ) → r / 8 < describe_least → c_describe im path l r ≡ c_zeros l r 13
  pub short_mends : (im : List ℕ) (l g r n : ℕ) → r / 8 < 3 → c_mend im l g r n ≡ c_mend_zeros im l g r 13
  pub short_undos : (im log : List ℕ) (r e n : ℕ) → r / 8 < 1 → c_undo im log r e n ≡ c_undo_zeros im r 13
