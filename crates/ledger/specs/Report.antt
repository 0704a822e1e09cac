-- The ledger that is handed out, and the stored counts read for it.
use Rattle.std.specs.Prelude.{ℕ, zero, suc, ◌+◌, ◌≤◌, ◌<◌, List, [], ◌∷◌, ◌≡◌, length, get_or, drop, replicate}
use Rattle.format.specs.Limits.{objects_most}
use Rattle.format.specs.Bytes.{u32}
use Rattle.format.specs.Audit.{Counted}
use Rattle.ledger.specs.declared.report.Ledger.{Ledger}

-- the first n places of three lists, as the definition's list
unfoldable pub counted_places : ℕ → List ℕ → List ℕ → List ℕ → List Counted
counted_places zero addresses stored counts = []
counted_places (suc n) addresses stored counts =
    record { address = get_or addresses 0 0; stored_count = get_or stored 0 0; true_count = get_or counts 0 0 }
    ∷ counted_places n (drop 1 addresses) (drop 1 stored) (drop 1 counts)

-- the objects that a ledger reports
abbrev pub counted_of : Ledger → List Counted
counted_of l = counted_places l.objects l.addresses l.stored l.true_counts

-- a ledger of no object
pub record Empty (l : Ledger) : Type 0 where
  pub none : l.objects ≡ 0
  pub addresses_zero : l.addresses ≡ replicate objects_most 0
  pub stored_zero : l.stored ≡ replicate objects_most 0
  pub counts_zero : l.true_counts ≡ replicate objects_most 0

-- the first n words are those of another list, and the rest stay
pub record Copied (from to : List ℕ) (n : ℕ) (to' : List ℕ) : Type 0 where
  pub copied : (k : ℕ) → k < n → get_or to' k 0 ≡ get_or from k 0
  pub rest : (k : ℕ) → n ≤ k → get_or to' k 0 ≡ get_or to k 0
  pub long : length to' ≡ length to

-- the first n addresses are there, and the count of each lies inside the image
pub record Readable (im addresses : List ℕ) (n : ℕ) : Type 0 where
  pub listed : n ≤ length addresses
  pub inside : (k : ℕ) → k < n → get_or addresses k 0 + 8 ≤ length im

-- the first n words are the counts stored at address + 4, and the rest stay
pub record StoredRead (im addresses : List ℕ) (n : ℕ) (stored stored' : List ℕ) : Type 0 where
  pub read : (k : ℕ) → k < n → get_or stored' k 0 ≡ u32 im (get_or addresses k 0 + 4)
  pub rest : (k : ℕ) → n ≤ k → get_or stored' k 0 ≡ get_or stored k 0
  pub long : length stored' ≡ length stored
