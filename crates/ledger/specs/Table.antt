-- The table of objects as two lists of words hold it, and what the functions over it return and leave.
use Rattle.std.specs.Prelude.{ℕ, zero, suc, ◌≤◌, ◌<◌, List, [], ◌∷◌, ◌≡◌, length, get_or, drop, Option, Some, None}
use Rattle.format.specs.Limits.{objects_most}
use Rattle.format.specs.Result.{Result, value, answer}
use Rattle.format.specs.Ledger.{Linked, linked, count_link}
use Rattle.ordering.specs.Order.{Ordering, words_from}
use Rattle.ledger.specs.Index.{index_words, Lower}

-- the first n places, as the definition's list
unfoldable pub linked_of : ℕ → List ℕ → List ℕ → List Linked
linked_of zero addresses counts = []
linked_of (suc n) addresses counts = linked (get_or addresses 0 0) (get_or counts 0 0) ∷ linked_of n (drop 1 addresses) (drop 1 counts)

-- Two lists with room for every object, so many of them there, and zeros in the places behind these. Behind the places of the
-- addresses stands their order; a guess, where the list has guesses, may be any number.
pub record Table (addresses counts : List ℕ) (objects : ℕ) : Type 0 where
  pub fits : objects ≤ objects_most
  pub addresses_long : index_words ≤ length addresses
  pub counts_long : objects_most ≤ length counts
  pub addresses_zero : (k : ℕ) → objects ≤ k → k < objects_most → get_or addresses k 0 ≡ 0
  pub counts_zero : (k : ℕ) → objects ≤ k → get_or counts k 0 ≡ 0
  pub ordering : Ordering (Lower addresses) (words_from addresses objects_most) objects

-- a discovery as the definition has it: the ledger with the link, or answer 12
abbrev pub discovery_of : List ℕ → List ℕ → Option ℕ → Result (List Linked)
discovery_of addresses counts (Some objects) = value (linked_of objects addresses counts)
discovery_of addresses counts None = answer 12

-- the lists left are again a table; a table that is full is left as it was
abbrev pub TableIf : List ℕ → List ℕ → List ℕ → List ℕ → Option ℕ → Type 0
TableIf addresses counts addresses' counts' (Some objects) = Table addresses' counts' objects
TableIf addresses counts addresses' counts' None = (addresses' ≡ addresses) × (counts' ≡ counts)

-- a link to the address was counted as the definition counts it
pub record Discovered (addresses counts : List ℕ) (objects address : ℕ) (addresses' counts' : List ℕ) (r : Option ℕ) : Type 0 where
  pub walk : discovery_of addresses' counts' r ≡ count_link address (linked_of objects addresses counts)
  pub table : TableIf addresses counts addresses' counts' r
  pub addresses_same : length addresses' ≡ length addresses
  pub counts_same : length counts' ≡ length counts

-- the table of the root alone, with one link
pub record Started (addresses counts : List ℕ) (root : ℕ) (addresses' counts' : List ℕ) : Type 0 where
  pub ledger : linked_of 1 addresses' counts' ≡ linked root 1 ∷ []
  pub table : Table addresses' counts' 1
  pub addresses_same : length addresses' ≡ length addresses
  pub counts_same : length counts' ≡ length counts
