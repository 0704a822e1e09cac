-- What reading the entries of a symbol table node returns.
use Rattle.std.specs.Prelude.{ℕ, ◌+◌, ◌*◌, ◌≤◌, List, ◌≡◌, length, true, Result, Ok, Err}
use Rattle.format.specs.Limits.{name_most}
use Rattle.format.specs.Bytes.{part, little_endian, u64}
use Rattle.format.specs.Blocks.{Block}
use Rattle.format.specs.Result.{value, answer}
use Rattle.format.specs.Walk.{Walk, ret, refuse, located}
use Rattle.format.specs.Names.{Bound, name_text, text, below}
use Rattle.format.specs.Entry.{GroupState, read_value, read_entry}
use Rattle.format.specs.Symbols.{entries}
use Rattle.segment.specs.Segment.{Known}
use Rattle.heap.specs.Segment.{heap_with, chained_heap}
use Rattle.range.specs.Range.{Range, NameInside, RangeInside, name_in, range_holds, Tight, Floor}
use Rattle.visit.specs.Visit.{Visit}
use Rattle.range.specs.declared.Name.{Name}
use Rattle.symbol.specs.declared.entry.Group.{Group}
use Rattle.symbol.specs.declared.entry.NameRange.{NameRange}
use Rattle.format.specs.declared.Refusal.{Refusal}

-- the group as the definitions have it, with what is done at an entry
abbrev pub group_of : {S : Type 0} → List ℕ → Visit S → Group → Rattle.format.specs.Entry.Group S
group_of seg visit g = record {
  leaf_k = g.leaf_k;
  internal_k = g.internal_k;
  heap = chained_heap seg g.strings.head g.strings.free;
  visit = visit;
}

abbrev pub state_of : {S : Type 0} → List ℕ → Name → S → GroupState S
state_of seg last found = record { last = name_in seg last; found = found }

-- the last name and what was found then, or the refusal
abbrev pub step_of : {S : Type 0} → List ℕ → S → Result Name Refusal → Walk (GroupState S)
step_of seg found (Ok last) = ret (state_of seg last found)
step_of seg found (Err r) = refuse r

abbrev pub value_of : Result (Unit {0}) ℕ → Rattle.format.specs.Result.Result (Unit {0})
value_of (Ok u) = value tt
value_of (Err n) = answer n

-- a value was read as its reader reads it, where the entry's type is this one
abbrev pub ValueIs : List ℕ → List ℕ → List Block → ℕ → ℕ → Result (Unit {0}) ℕ → Type 0
ValueIs im seg bs kind at r =
    (m : ℕ) → 40 ≤ m → at + m ≤ length im → kind ≡ little_endian (part (part im at m) 16 4) → value_of r ≡ read_value (heap_with seg bs) (part im at m)

-- what holds at an entry: the segment is known, and the strings lie in it
pub record Ready (seg map : List ℕ) (g : Group) (r : NameRange) : Type 0 where
  pub known : Known seg map g.strings.head g.strings.free g.strings.ended
  pub keys : RangeInside seg r.keys
  pub last : NameInside seg r.last

-- the entry's name is sound, and it is this one
pub record NameSound (im seg : List ℕ) (g : Group) (at : ℕ) (n : Name) : Type 0 where
  pub inside : NameInside seg n
  pub short : length (name_in seg n) ≤ name_most
  pub is : name_text (chained_heap seg g.strings.head g.strings.free) (u64 im at) ≡ text (name_in seg n)

-- a name is above the last one, and between the keys
abbrev pub Between : List ℕ → NameRange → Name → Type 0
Between seg r n = (below (name_in seg r.last) (name_in seg n) ≡ true) × (range_holds seg r.keys (name_in seg n) ≡ true)

-- behind an entry its name is the string that the next name has to be above
abbrev pub FloorIf : List ℕ → Range → Result Name Refusal → Type 0
FloorIf seg keys (Ok n) = Floor seg keys (name_in seg n) n
FloorIf seg keys (Err x) = Unit {0}

-- the last name lies in the segment
abbrev pub LastIf : List ℕ → Result Name Refusal → Type 0
LastIf seg (Ok n) = NameInside seg n
LastIf seg (Err x) = Unit {0}

-- the entry at `at` was read as its reader reads it, from any part of the image that holds it
pub record EntryIs {S : Type 0} (im seg : List ℕ) (visit : Visit S) (g : Group) (r : NameRange) (at : ℕ) (found found' : S)
    (x : Result Name Refusal) : Type 0 where
  pub walk : (bounds : List Bound) (m : ℕ) → Tight seg r.keys bounds → 40 ≤ m → at + m ≤ length im →
      step_of seg found' x ≡ located at (read_entry (group_of seg visit g) bounds (part im at m) (state_of seg r.last found))
  pub floor : FloorIf seg r.keys x

-- n entries were read as their walk reads them
pub record EntriesAre {S : Type 0} (im seg : List ℕ) (visit : Visit S) (g : Group) (r : NameRange) (from n : ℕ) (found found' : S)
    (x : Result Name Refusal) : Type 0 where
  pub walk : (bounds : List Bound) (m : ℕ) → Tight seg r.keys bounds → 40 * n ≤ m → from + m ≤ length im →
      step_of seg found' x ≡ entries (group_of seg visit g) bounds n from (part im from m) (state_of seg r.last found)
  pub last : LastIf seg x
