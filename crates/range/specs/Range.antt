-- Strings of the segment, and the range that the keys above a name leave for it.
use Rattle.std.specs.Prelude.{ℕ, ◌+◌, ◌≤◌, Bool, true, not, List, [], ◌∷◌, ◌≡◌, length, drop, Option, Some, None}
use Rattle.format.specs.Limits.{name_most}
use Rattle.format.specs.Bytes.{all_hold, part}
use Rattle.format.specs.Names.{Bound, below, within}
use Rattle.order.specs.BigEndian.{first_number}
use Rattle.range.specs.declared.Name.{Name}
use Rattle.range.specs.declared.Keys.{Keys}

-- a string's bytes
abbrev pub name_in : List ℕ → Name → List ℕ
name_in seg n = part seg n.at n.size

-- it lies in the segment, and the numbers are those of its first bytes and of the next
pub record NameInside (seg : List ℕ) (n : Name) : Type 0 where
  pub within : n.at + n.size ≤ length seg
  pub first : n.first ≡ first_number 8 (name_in seg n)
  pub second : n.second ≡ first_number 8 (drop 8 (name_in seg n))

-- the keys that bound a name, if any do
abbrev pub Range : Type 0
Range = Option Keys

pub record KeysInside (seg : List ℕ) (k : Keys) : Type 0 where
  pub low_inside : NameInside seg k.low
  pub high_inside : NameInside seg k.high

abbrev pub RangeInside : List ℕ → Option Keys → Type 0
RangeInside seg (Some k) = KeysInside seg k
RangeInside seg None = Unit {0}

-- "names under child i are above key i and at most key i+1"
abbrev pub range_holds : List ℕ → Option Keys → List ℕ → Bool
range_holds seg (Some k) t = all_hold (below (name_in seg k.low) t ∷ not (below (name_in seg k.high) t) ∷ [])
range_holds seg None t = true

-- the string isn't above the high key
abbrev pub at_most : List ℕ → Option Keys → List ℕ → Bool
at_most seg (Some k) t = not (below (name_in seg k.high) t)
at_most seg None t = true

-- The range says the same as the keys on every level above, of every string that is no longer than a name: no key is read further.
abbrev pub Tight : List ℕ → Range → List Bound → Type 0
Tight seg r bounds = (t : List ℕ) → length t ≤ name_most → within bounds t ≡ range_holds seg r t

-- To be above the last name and in the range is to be above one string and not above the high key.
pub record Floor (seg : List ℕ) (r : Range) (last : List ℕ) (floor : Name) : Type 0 where
  pub inside : NameInside seg floor
  pub above : (t : List ℕ) → all_hold (below last t ∷ range_holds seg r t ∷ []) ≡ all_hold (below (name_in seg floor) t ∷ at_most seg r t ∷ [])

-- the higher of two: what is above it is above both
pub record HigherOf (seg : List ℕ) (a b r : Name) : Type 0 where
  pub inside : NameInside seg r
  pub above : (t : List ℕ) → below (name_in seg r) t ≡ all_hold (below (name_in seg b) t ∷ below (name_in seg a) t ∷ [])

-- the lower of two: what isn't above it isn't above either
pub record LowerOf (seg : List ℕ) (a b r : Name) : Type 0 where
  pub inside : NameInside seg r
  pub not_above : (t : List ℕ) → not (below (name_in seg r) t) ≡ all_hold (not (below (name_in seg b) t) ∷ not (below (name_in seg a) t) ∷ [])

-- the range of a child between two keys
pub record Narrowed (seg : List ℕ) (range : Range) (low high : Name) (r : Range) : Type 0 where
  pub inside : RangeInside seg r
  pub tight : (bounds : List Bound) → Tight seg range bounds → Tight seg r (record { low = name_in seg low; high = name_in seg high } ∷ bounds)
