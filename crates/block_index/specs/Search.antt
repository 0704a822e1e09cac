-- What the searches in the index find.
use Rattle.std.specs.Prelude.{ℕ, ◌+◌, ◌*◌, ◌^◌, ◌≤◌, ◌<◌, true, false, List, ◌≡◌, length, get_or}
use Rattle.ordering.specs.Order.{Ordering, words_from}
use Rattle.block_index.specs.Index.{Before, Meets, Apart, Indexed, start_of, size_of, behind_of, places_for, first_from, second_from, merged_of, recent_of}
use Rattle.block_index.specs.declared.search.Run.{Run}
use Rattle.block_index.specs.declared.index.Found.{Found}

-- the two runs of n blocks in so many words
abbrev pub first_run : ℕ → ℕ → Run
first_run words n = record { base = first_from words; first = 0; count = merged_of n }

abbrev pub second_run : ℕ → ℕ → Run
second_run words n = record { base = second_from words; first = merged_of n; count = recent_of n }

-- the number of the k-th block of a run
abbrev pub number_at : List ℕ → Run → ℕ → ℕ
number_at ws r k = r.first + words_from ws r.base k

-- the blocks of a run, which share no byte, are in order
pub record Sorted (ws : List ℕ) (r : Run) : Type 0 where
  pub inside : r.base + r.count ≤ length ws
  pub listed : 4 * (r.first + r.count) ≤ length ws
  pub small : (b : ℕ) → b < r.count → behind_of ws (r.first + b) < 2 ^ 64
  pub ordering : Ordering (λ i j. Before ws (r.first + i) (r.first + j)) (words_from ws r.base) r.count

-- So many blocks of a run end at the byte a or before it, and the others end behind it.
pub record Placed (ws : List ℕ) (r : Run) (a place : ℕ) : Type 0 where
  pub most : place ≤ r.count
  pub before : (k : ℕ) → k < place → behind_of ws (number_at ws r k) ≤ a
  pub after : (k : ℕ) → place ≤ k → k < r.count → a < behind_of ws (number_at ws r k)

-- what the search for the n bytes at a finds: the places in both runs, whether a block is met, and how many blocks were compared
pub record FoundIn (ws : List ℕ) (count a n : ℕ) (r : Found) : Type 0 where
  pub first : Placed ws (first_run (length ws) count) a r.first
  pub second : Placed ws (second_run (length ws) count) a r.second
  pub meets : r.met ≡ true → (b : ℕ) × (b < count) × Meets ws b a n
  pub apart : r.met ≡ false → (b : ℕ) → b < count → Apart ws b a n
  pub tests : (m : ℕ) → count < 2 ^ m → r.tests ≤ m + 10

-- b is the least of the numbers of a run's blocks that share a byte with the n bytes at a, and of one more number
pub record LeastMet (ws : List ℕ) (r : Run) (a n least b : ℕ) : Type 0 where
  pub most : b ≤ least
  pub met : (b ≡ least → ⊥) → Meets ws b a n × (r.first ≤ b) × (b < r.first + r.count)
  pub earlier : (c : ℕ) → r.first ≤ c → c < r.first + r.count → c < b → Apart ws c a n

-- of so many blocks the one entered first that shares a byte with the n bytes at a
pub record FirstMet (ws : List ℕ) (count a n b : ℕ) : Type 0 where
  pub among : b < count
  pub met : Meets ws b a n
  pub earlier : (c : ℕ) → c < b → Apart ws c a n

-- The block behind the count that are indexed has its words, and these are its places among the others, of which it meets none.
pub record Addable (ws : List ℕ) (count first second : ℕ) : Type 0 where
  pub indexed : Indexed ws count
  pub room : count < places_for (length ws)
  pub small : behind_of ws count < 2 ^ 64
  pub first_place : Placed ws (first_run (length ws) count) (start_of ws count) first
  pub second_place : Placed ws (second_run (length ws) count) (start_of ws count) second
  pub apart : (b : ℕ) → b < count → Apart ws b (start_of ws count) (size_of ws count)

-- One block more is indexed, and the blocks' words are as they were.
pub record Extended (ws : List ℕ) (count : ℕ) (ws' : List ℕ) : Type 0 where
  pub indexed : Indexed ws' (count + 1)
  pub kept : (k : ℕ) → k < first_from (length ws) → get_or ws' k 0 ≡ get_or ws k 0
  pub long : length ws' ≡ length ws
