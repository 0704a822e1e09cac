-- Numbered things kept in an order: a list of their numbers, the first one's first.
use Rattle.std.specs.Prelude.{ℕ, ◌+◌, ◌≤◌, ◌<◌, List, ◌≡◌, length, get_or}

-- The numbers f 0 to f (n - 1) are those below n, each once, and each stands before those behind it.
pub record Ordering (Before : ℕ → ℕ → Type 0) (f : ℕ → ℕ) (n : ℕ) : Type 0 where
  pub within : (k : ℕ) → k < n → f k < n
  pub onto : (b : ℕ) → b < n → (k : ℕ) × (k < n) × (f k ≡ b)
  pub rising : (j k : ℕ) → j < k → k < n → Before (f j) (f k)

-- the words from a base on
abbrev pub words_from : List ℕ → ℕ → ℕ → ℕ
words_from ws base k = get_or ws (base + k) 0

-- The word v was put into the words ws, of which the n from base on count, in this place of them.
pub record Inserted (ws : List ℕ) (base n place v : ℕ) (ws' : List ℕ) : Type 0 where
  pub below : (k : ℕ) → k < base + place → get_or ws' k 0 ≡ get_or ws k 0
  pub here : get_or ws' (base + place) 0 ≡ v
  pub above : (k : ℕ) → place ≤ k → k < n → get_or ws' (base + (k + 1)) 0 ≡ get_or ws (base + k) 0
  pub rest : (k : ℕ) → base + n < k → get_or ws' k 0 ≡ get_or ws k 0
  pub long : length ws' ≡ length ws
