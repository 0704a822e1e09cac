-- The index of a block list: the numbers of the blocks in the order of their addresses, in the tail of the list of words.
use Rattle.std.specs.Prelude.{ℕ, ◌+◌, ◌-◌, ◌*◌, ◌/◌, ◌%◌, ◌^◌, ◌≤◌, ◌<◌, true, false, List, ◌≡◌, length, get_or}
use Rattle.format.specs.Blocks.{block, overlaps}
use Rattle.ordering.specs.Order.{words_from}
use Rattle.ordering.specs.Merge.{TwoRuns}

-- the address of block b, its length, and the byte behind it
abbrev pub start_of : List ℕ → ℕ → ℕ
start_of ws b = get_or ws (4 * b) 0

abbrev pub size_of : List ℕ → ℕ → ℕ
size_of ws b = get_or ws (4 * b + 1) 0

abbrev pub behind_of : List ℕ → ℕ → ℕ
behind_of ws b = start_of ws b + size_of ws b

-- block b lies before block c
abbrev pub Before : List ℕ → ℕ → ℕ → Type 0
Before ws b c = behind_of ws b ≤ start_of ws c

-- block b shares a byte with the n bytes at a, or shares none
abbrev pub Meets : List ℕ → ℕ → ℕ → ℕ → Type 0
Meets ws b a n = overlaps (block (start_of ws b) (size_of ws b)) a n ≡ true

abbrev pub Apart : List ℕ → ℕ → ℕ → ℕ → Type 0
Apart ws b a n = overlaps (block (start_of ws b) (size_of ws b)) a n ≡ false

-- How many blocks so many words have a place for: four words a block, one for its number, and 128 for the second run, which has up to
-- 64 numbers and as many places.
abbrev pub places_for : ℕ → ℕ
places_for words = (words - 128) / 5

-- where the numbers of the first run begin, those of the second, and the places of the second among the first
abbrev pub first_from : ℕ → ℕ
first_from words = 4 * places_for words

abbrev pub second_from : ℕ → ℕ
second_from words = 5 * places_for words

abbrev pub places_from : ℕ → ℕ
places_from words = 5 * places_for words + 64

-- of n blocks those in the first run, and those in the second, which is merged into the first when it has 64
abbrev pub merged_of : ℕ → ℕ
merged_of n = n / 64 * 64

abbrev pub recent_of : ℕ → ℕ
recent_of n = n % 64

-- n blocks, which share no byte, and their order
pub record Indexed (ws : List ℕ) (n : ℕ) : Type 0 where
  pub fits : n ≤ places_for (length ws)
  pub small : (b : ℕ) → b < n → behind_of ws b < 2 ^ 64
  pub runs : TwoRuns (Before ws) (words_from ws (first_from (length ws))) (words_from ws (second_from (length ws)))
      (words_from ws (places_from (length ws))) (merged_of n) (recent_of n)
