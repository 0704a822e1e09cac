-- What the dataspace reader's answer means.
use Rattle.std.specs.Prelude.{ℕ, ◌+◌, ◌*◌, ◌≤◌, Bool, true, false, List, ◌≡◌, length, drop, if◌then◌else◌, Ok, Err}
use Rattle.format.specs.Limits.{rank_most}
use Rattle.format.specs.Bytes.{to_words, contains}
use Rattle.format.specs.Dataspace.{Dataspace, read_dataspace}
use Rattle.format.specs.Result.{Result, value, answer}
use Rattle.std.specs.Prelude as std
use Rattle.dataspace.specs.declared.Dimensions.{Dimensions}

-- what the reader returns: what the message says of the dimensions, or the answer
abbrev pub SpaceAnswer : Type 0
SpaceAnswer = std.Result Dimensions ℕ

-- the sizes and maxima that stand in the body b, by the rank and whether maxima are stored
abbrev pub space_of : List ℕ → ℕ → Bool → Dataspace
space_of b rank stored =
    let sizes = to_words rank (drop 8 b) in
    record { sizes = sizes; maxima = if stored then to_words rank (drop (8 + 8 * rank) b) else sizes }

-- the answer as the end of the message's walk
abbrev pub space_result : List ℕ → SpaceAnswer → Result Dataspace
space_result b (Ok d) = value (space_of b d.rank d.maxima_stored)
space_result b (Err n) = answer n

-- the rank of what was read
abbrev pub rank_of : SpaceAnswer → ℕ
rank_of (Ok d) = d.rank
rank_of (Err n) = 0

-- where the sizes end in the body, of what was read
abbrev pub sizes_end : SpaceAnswer → ℕ
sizes_end (Ok d) = 8 + 8 * d.rank
sizes_end (Err n) = 0

-- where the maxima end, or the sizes where none are stored
abbrev pub maxima_end : SpaceAnswer → ℕ
maxima_end (Ok d) = if d.maxima_stored then 8 + 16 * d.rank else 8 + 8 * d.rank
maxima_end (Err n) = 0

-- what was read has so many dimensions at most, and its sizes and maxima lie in the body b
abbrev pub SpaceInside : List ℕ → SpaceAnswer → Type 0
SpaceInside b r = (rank_of r ≤ rank_most) × (sizes_end r ≤ length b) × (maxima_end r ≤ length b)

-- r was read from the body b, and what it names lies inside
pub record SpaceRead (b : List ℕ) (r : SpaceAnswer) : Type 0 where
  pub walk : space_result b r ≡ read_dataspace b
  pub ranked : rank_of r ≤ rank_most
  pub sizes : sizes_end r ≤ length b
  pub maxima : maxima_end r ≤ length b

-- a body with so many sizes, none of them 0
pub record Sizes (b : List ℕ) (rank : ℕ) : Type 0 where
  pub inside : 8 + 8 * rank ≤ length b
  pub nonzero : contains 0 (to_words rank (drop 8 b)) ≡ false
