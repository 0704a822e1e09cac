-- What is done at a message, for whatever is done there, and the laws of it.
use Rattle.std.specs.Prelude.{ℕ, ◌+◌, ◌≤◌, List, [], ◌∷◌, ◌++◌, ◌≡◌, Result, Ok, Err}
use Rattle.format.specs.Blocks.{Block}
use Rattle.format.specs.Result as reader
use Rattle.format.specs.Message.{Message}
use Rattle.laws.specs.Blocks.{Fresh, Inside}

-- what is found with a message, or the answer to it
abbrev pub visit_result : {S : Type 0} → S → Result (Unit {0}) ℕ → reader.Result S
visit_result found (Ok u) = reader.value found
visit_result found (Err n) = reader.answer n

-- a message of a type was visited as the definition visits it; its flags and its place say nothing
abbrev pub Visited : {S : Type 0} → (Message → S → reader.Result S) → ℕ → List ℕ → S → S → Result (Unit {0}) ℕ → Type 0
Visited visit kind body found found' r =
    (flags place : ℕ) → visit_result found' r ≡ visit (record { type = kind; flags = flags; body = body; place = place }) found

-- the same lists are lent to a value and to itself, and to a third if to a second
pub record Lasts {V : Type 0} (Same : V → V → Type 0) : Type 0 where
  pub itself : (v : V) → Same v v
  pub next : (u v w : V) → Same u v → Same v w → Same u w

-- What is counted, once for a message at most: where nothing is done nothing more is counted, and counts add up. What was counted is
-- taken from the room and from the bytes to spare; there is room for what is to spare, and a block that is entered gives its bytes.
pub record Counts {V : Type 0} (Room : V → ℕ → Type 0) (Kept : V → ℕ → V → Type 0) (Counting : V → ℕ → List Block → ℕ → Type 0) : Type 0 where
  pub none : (v : V) (n : ℕ) → Room v n → Kept v 0 v
  pub more : (u v w : V) (m n k : ℕ) → m + n ≤ k → Kept u m v → Kept v n w → Kept u k w
  pub room : (u v : V) (m n k : ℕ) → m + k ≤ n → Room u n → Kept u m v → Room v k
  pub fits : (v : V) (eof : ℕ) (bs : List Block) (n k : ℕ) → k ≤ n → Counting v eof bs n → Room v k
  pub spare : (u v : V) (eof : ℕ) (bs : List Block) (m n k : ℕ) → m + k ≤ n → Counting u eof bs n → Kept u m v → Counting v eof bs k
  pub entered : (v : V) (eof : ℕ) (bs : List Block) (b : Block) (n : ℕ) → Fresh bs (b ∷ []) → Inside eof (b ∷ []) → Counting v eof bs n →
      Counting v eof (bs ++ (b ∷ [])) (n + b.size)
