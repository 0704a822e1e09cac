-- What the steps of a mending know of the ledger and the log.
use Rattle.std.specs.Prelude.{ℕ, ◌+◌, ◌^◌, ◌≤◌, ◌<◌, List, [], ◌∷◌, ◌≡◌, length, get_or}
use Rattle.format.specs.Log.{Change}
use Rattle.format.specs.Mend.{corrections}
use Rattle.ledger.specs.Report.{counted_of}
use Rattle.ledger.specs.declared.report.Ledger.{Ledger}

-- the change of one object: none where its count is right
abbrev pub correction : ℕ → ℕ → ℕ → List Change
correction address stored true = corrections (record { address = address; stored_count = stored; true_count = true } ∷ [])

-- the number of wrong counts of a ledger, which has no more of them than objects
pub record WrongCounts (l : Ledger) (n : ℕ) : Type 0 where
  pub wrong : n ≡ length (corrections (counted_of l))
  pub most : n ≤ l.objects

-- each new count fits its half of a word, so that an entry is read back as it was written
abbrev pub NewsFit : List Change → Type 0
NewsFit [] = Unit {0}
NewsFit (c ∷ cs) = (c.new < 2 ^ 32) × NewsFit cs

-- the count of each object of a ledger lies below an end
abbrev pub CountsBelow : ℕ → Ledger → Type 0
CountsBelow end l = (k : ℕ) → k < l.objects → get_or l.addresses k 0 + 8 ≤ end

-- the field of each of the first n entries of a log lies inside an image so long
abbrev pub FieldsInside : ℕ → ℕ → List ℕ → Type 0
FieldsInside long n log = (k : ℕ) → k < n → get_or log (k + k) 0 + 4 ≤ long
