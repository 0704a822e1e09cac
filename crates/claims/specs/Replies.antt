-- Demand 2, of the replies of lookup and description: "A name is found exactly when the group's sound index holds it and the header it links to is sound;
-- absent only from a sound index."
use Rattle.std.specs.Prelude.{ℕ, ◌*◌, ◌/◌, ◌+◌, ◌≤◌, List, [], ◌∷◌, ◌↔◌, ◌≡◌, replicate}
use Rattle.format.specs.Limits.{rank_most}
use Rattle.format.specs.Blocks.{Block}
use Rattle.format.specs.Walk.{done}
use Rattle.format.specs.Dataset.{Dataset}
use Rattle.format.specs.Answers.{lookup, describe_end, describe}
use Rattle.format.specs.Front.{padded_bytes, c_describe_end, c_lookup, c_describe}
use Rattle.found.specs.Found.{IsFound, IsAbsent, IsDescribed}

-- some blocks are left by an absent path
abbrev pub Absent : List ℕ → List ℕ → ℕ → Type 0
Absent im path lent = (bs : List Block) × IsAbsent im path lent bs

-- a lookup gives 0 exactly if the path is found with the reply's kind and address, and 15 exactly if it is absent
pub record LookupReplies : Type 0 where
  pub found : (im path : List ℕ) (lent : ℕ) →
      ((lookup im path lent).number ≡ 0) ↔ ((bs : List Block) × IsFound im path lent (lookup im path lent).kind (lookup im path lent).address bs)
  -- whatever is found is what the reply gives
  pub given : (im path : List ℕ) (lent kind address : ℕ) (bs : List Block) → IsFound im path lent kind address bs →
      lookup im path lent ≡ record { number = 0; met = 0; kind = kind; address = address; block_count = 0; list = replicate lent 0 }
  pub absent : (im path : List ℕ) (lent : ℕ) → ((lookup im path lent).number ≡ 15) ↔ Absent im path lent

-- a description gives 0 exactly if the path is described, with the reply of that dataset and those blocks
pub record DescribeReplies : Type 0 where
  pub described : (im path : List ℕ) (lent : ℕ) →
      ((describe im path lent).number ≡ 0) ↔ ((d : Dataset) × (bs : List Block) × IsDescribed im path lent d bs)
  pub given : (im path : List ℕ) (lent : ℕ) (d : Dataset) (bs : List Block) → IsDescribed im path lent d bs →
      describe im path lent ≡ describe_end lent (done d bs)
  pub absent : (im path : List ℕ) (lent : ℕ) → ((describe im path lent).number ≡ 15) ↔ Absent im path lent

-- the same in C, with slices of l and r bytes for the list and the reply, where r has room for the reply
pub record CReplies : Type 0 where
  pub found : (im path : List ℕ) (l r : ℕ) → 3 ≤ r / 8 →
      ((c_lookup im path l r).number ≡ 0) ↔ ((kind address : ℕ) × (bs : List Block) × IsFound im path (l / 8) kind address bs)
  pub found_given : (im path : List ℕ) (l r : ℕ) → 3 ≤ r / 8 → (kind address : ℕ) (bs : List Block) → IsFound im path (l / 8) kind address bs →
      c_lookup im path l r ≡ record { number = 0; list = replicate l 0; reply = padded_bytes r (0 ∷ kind ∷ address ∷ []) }
  pub not_found : (im path : List ℕ) (l r : ℕ) → 3 ≤ r / 8 → ((c_lookup im path l r).number ≡ 15) ↔ Absent im path (l / 8)
  pub described : (im path : List ℕ) (l r : ℕ) → 10 + 2 * rank_most ≤ r / 8 →
      ((c_describe im path l r).number ≡ 0) ↔ ((d : Dataset) × (bs : List Block) × IsDescribed im path (l / 8) d bs)
  pub described_given : (im path : List ℕ) (l r : ℕ) → 10 + 2 * rank_most ≤ r / 8 → (d : Dataset) (bs : List Block) → IsDescribed im path (l / 8) d bs →
      c_describe im path l r ≡ c_describe_end l r (describe_end (l / 8) (done d bs))
  pub not_described : (im path : List ℕ) (l r : ℕ) → 10 + 2 * rank_most ≤ r / 8 → ((c_describe im path l r).number ≡ 15) ↔ Absent im path (l / 8)
