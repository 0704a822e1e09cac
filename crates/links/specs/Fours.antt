-- "The block list grows to four words: address, length, kind .. and the number of the object it was walked for": what a caller reads off the words.
use Rattle.std.specs.Prelude.{ℕ, zero, suc, ◌+◌, ◌*◌, ◌<◌, List, [], ◌∷◌, ◌≡◌, eqb, length, get_or, take, drop, if◌then◌else◌}
use Rattle.format.specs.Blocks.{Block, block_of, block, no_object, last_owner}
use Rattle.links.specs.Owners.{owned_by}

-- the number of the k-th block, from 0 on
abbrev pub number_at : ℕ → List Block → ℕ
number_at k bs = last_owner no_object (take (suc k) bs)

-- the k-th four of a list of words is this block, with this number
pub record Four (ws : List ℕ) (k : ℕ) (b : Block) (o : ℕ) : Type 0 where
  pub address : get_or ws (4 * k) 0 ≡ b.at
  pub size : get_or ws (4 * k + 1) 0 ≡ b.size
  pub kind : get_or ws (4 * k + 2) 0 ≡ b.kind
  pub object : get_or ws (4 * k + 3) 0 ≡ o

-- the blocks that a caller finds under the number o in the first n fours
unfoldable pub read_owned : ℕ → ℕ → List ℕ → List Block
read_owned zero o ws = []
read_owned (suc n) o ws =
    let rest = read_owned n o (drop 4 ws) in
    if eqb (get_or ws 3 0) o then block_of (get_or ws 2 0) (get_or ws 0 0) (get_or ws 1 0) ∷ rest else rest

-- a list of words that holds these blocks: its fours are theirs, with their numbers; so what a caller finds under a number are the blocks of that number
pub record ListHolds (bs : List Block) (ws : List ℕ) : Type 0 where
  pub four : (k : ℕ) → k < length bs → Four ws k (get_or bs k (block 0 0)) (number_at k bs)
  pub read : (o : ℕ) → read_owned (length bs) o ws ≡ owned_by o bs
