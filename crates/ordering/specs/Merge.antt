-- Two orderings, of the numbers below m and of those from m on, and the one that they are merged into.
use Rattle.std.specs.Prelude.{ℕ, ◌+◌, ◌≤◌, ◌<◌, List, ◌⊎◌, ◌≡◌, length, get_or}
use Rattle.ordering.specs.Order.{Ordering, words_from}
use Rattle.ordering.specs.declared.Runs.{Runs}

-- The first run orders the numbers below m by f, the second the s numbers from m on by g, counted from m. Of the first run p k numbers
-- stand before the k-th of the second, and the others behind it.
pub record TwoRuns (Before : ℕ → ℕ → Type 0) (f g p : ℕ → ℕ) (m s : ℕ) : Type 0 where
  pub first : Ordering Before f m
  pub second : Ordering (λ i j. Before (m + i) (m + j)) g s
  pub most : (k : ℕ) → k < s → p k ≤ m
  pub rising : (j k : ℕ) → j < k → k < s → p j ≤ p k
  pub before : (j k : ℕ) → k < s → j < p k → Before (f j) (m + g k)
  pub behind : (j k : ℕ) → k < s → p k ≤ j → j < m → Before (m + g k) (f j)

-- Of the numbers f' the k-th of the second run has k of its run and p k of the first before it; the j-th of the first run has j of its run before
-- it, and those of the second that stand before it.
pub record Merged (f g p : ℕ → ℕ) (m s : ℕ) (f' : ℕ → ℕ) : Type 0 where
  pub seconds : (k : ℕ) → k < s → f' (p k + k) ≡ m + g k
  pub firsts : (j k : ℕ) → j < m → k ≤ s → ((i : ℕ) → i < k → p i ≤ j) → (k < s → j < p k) → f' (j + k) ≡ f j

-- The words hold two runs: the numbers of the first with room for those of the second behind them, the numbers of the second, and its places.
pub record Held (ws : List ℕ) (r : Runs) : Type 0 where
  pub apart : r.first + (r.count + r.added) ≤ r.second
  pub between : r.second + r.added ≤ r.places
  pub inside : r.places + r.added ≤ length ws
  pub within : (k : ℕ) → k < r.added → words_from ws r.second k < r.added
  pub most : (k : ℕ) → k < r.added → words_from ws r.places k ≤ r.count
  pub rising : (j k : ℕ) → j < k → k < r.added → words_from ws r.places j ≤ words_from ws r.places k

-- The second run was merged into the first, and no other word was written.
pub record MergedIn (ws : List ℕ) (r : Runs) (ws' : List ℕ) : Type 0 where
  pub merged : Merged (words_from ws r.first) (words_from ws r.second) (words_from ws r.places) r.count r.added (words_from ws' r.first)
  pub rest : (k : ℕ) → (k < r.first) ⊎ (r.first + (r.count + r.added) ≤ k) → get_or ws' k 0 ≡ get_or ws k 0
  pub long : length ws' ≡ length ws

-- The words from first up to last stand so many places further up; those before first and those from last + by on are as they were.
pub record Raised (ws : List ℕ) (first last by : ℕ) (ws' : List ℕ) : Type 0 where
  pub below : (k : ℕ) → k < first → get_or ws' k 0 ≡ get_or ws k 0
  pub moved : (k : ℕ) → first ≤ k → k < last → get_or ws' (k + by) 0 ≡ get_or ws k 0
  pub rest : (k : ℕ) → last + by ≤ k → get_or ws' k 0 ≡ get_or ws k 0
  pub long : length ws' ≡ length ws
