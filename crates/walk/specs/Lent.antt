-- The block list that a caller lends, and what a function returns and leaves of a run.
use Rattle.std.specs.Prelude.{ℕ, ◌+◌, ◌*◌, suc, zero, ◌≤◌, ◌<◌, min, ◌≡◌, List, [], ◌∷◌, length, get_or, take, drop, set, Result, Ok, Err}
use Rattle.format.specs.Limits.{blocks_most}
use Rattle.format.specs.Bytes.{padded}
use Rattle.format.specs.Blocks.{Block, block_of, no_object, owner_after, last_owner, block_words}
use Rattle.format.specs.declared.Refusal.{Refusal}
use Rattle.block_index.specs.Index.{Indexed, places_for, first_from}
use Rattle.format.specs.Walk.{Outcome, done, refused, if_entered, not_entered}

-- the first c blocks of a list of words, four words a block, the last of which is the number of an object
unfoldable pub blocks_of : ℕ → List ℕ → List Block
blocks_of zero ws = []
blocks_of (suc c) ws = block_of (get_or ws 2 0) (get_or ws 0 0) (get_or ws 1 0) ∷ blocks_of c (drop 4 ws)

-- the lengths of blocks, summed
unfoldable pub length_sum : List Block → ℕ
length_sum [] = 0
length_sum (b ∷ bs) = b.size + length_sum bs

-- the blocks that may be entered in a working list of so many words
unfoldable pub places_of : ℕ → ℕ
places_of words = min blocks_most (places_for words)

-- the words of a working list for so many blocks
abbrev pub work_words : ℕ → ℕ
work_words room = 5 * room + 128

-- what a caller's list of so many words gets of a working list: its blocks, and zeros behind them
abbrev pub handed : ℕ → ℕ → List ℕ → List ℕ
handed lent count ws = padded lent (take (4 * count) ws)

-- a list of words with room for so many blocks and their index, of which count are entered, each with the number of its object
pub record Lent (ws : List ℕ) (count room : ℕ) : Type 0 where
  pub counted : count ≤ room
  pub lent : room ≤ places_for (length ws)
  pub numbered : take (4 * count) ws ≡ block_words no_object (blocks_of count ws)
  pub indexed : Indexed ws count

-- how a run ends, without its list: its value and the number of its blocks, or the refusal
pub data Ended (A : Type 0) : Type 0 where
  ended : A → ℕ → Ended A
  stopped : Refusal → Ended A

-- the end of a run with this outcome
abbrev pub end_of : {A : Type 0} → Outcome A → Ended A
end_of (done a bs) = ended a (length bs)
end_of (refused r bs) = stopped r

-- the blocks of an outcome
abbrev pub left : {A : Type 0} → Outcome A → List Block
left (done a bs) = bs
left (refused r bs) = bs

-- a function that was lent ws left ws' and returned r, as the run's outcome o asks; the words between the blocks and the index stay
pub record Walked {A : Type 0} (ws ws' : List ℕ) (r : Ended A) (o : Outcome A) : Type 0 where
  pub answer : r ≡ end_of o
  pub held : take (4 * length (left o)) ws' ≡ block_words no_object (left o)
  pub rest : (k : ℕ) → 4 * length (left o) ≤ k → k < first_from (length ws) → get_or ws' k 0 ≡ get_or ws k 0
  pub indexed : Indexed ws' (length (left o))

-- what entering a block returns, by its answer; the block of n bytes at a, of a kind, comes behind the blocks bs
abbrev pub entering : ℕ → ℕ → ℕ → ℕ → List Block → ℕ → Result ℕ Refusal
entering zero kind a n bs count = Ok (count + 1)
entering (suc answer) kind a n bs count = Err (not_entered (suc answer) kind a n bs)

-- the list with four words written at k
abbrev pub with_four : List ℕ → ℕ → ℕ → ℕ → ℕ → ℕ → List ℕ
with_four ws k a n v o = set (set (set (set ws k a) (k + 1) n) (k + 2) v) (k + 3) o

-- the list with a block of a kind behind the first c, of the object that follows from theirs
abbrev pub appended : List ℕ → ℕ → ℕ → ℕ → ℕ → List ℕ
appended ws c kind a n = with_four ws (4 * c) a n kind (owner_after (last_owner no_object (blocks_of c ws)) kind)

-- one block more: up to the index the words are those of the list with the block behind the others, and the index has it too
pub record Added (ws : List ℕ) (count kind a n : ℕ) (ws' : List ℕ) : Type 0 where
  pub head : take (first_from (length ws)) ws' ≡ take (first_from (length ws)) (appended ws count kind a n)
  pub indexed : Indexed ws' (count + 1)
  pub long : length ws' ≡ length ws

-- what entering a block leaves of the list, by its answer
abbrev pub IsEntered : ℕ → List ℕ → ℕ → ℕ → ℕ → ℕ → List ℕ → Type 0
IsEntered answer ws count kind a n ws' = if_entered answer (Added ws count kind a n ws') (λ _. ws' ≡ ws)

-- entering a block as the end of a run: the number of blocks then entered, or the refusal
abbrev pub entry_end : Result ℕ Refusal → Ended (Unit {0})
entry_end (Ok c) = ended tt c
entry_end (Err r) = stopped r
