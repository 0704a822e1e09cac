-- Symbol table entries (FF III.C).
use Rattle.std.specs.Prelude.{ℕ, List, Bool, leb, eqb, if◌then◌else◌}
use Rattle.format.specs.Bytes.{u32, u64}
use Rattle.format.specs.Result.{Result, value, check, ◌>>=◌, ◌>>◌}
use Rattle.format.specs.Heap.{Heap}
use Rattle.format.specs.Names.{Bound, read_text, name_text, value_text, below, within}

-- an entry that has passed its checks
pub record Entry : Type 0 where
  pub name : List ℕ
  pub type : ℕ
  pub header : ℕ

-- "Types 0 and 1 are hard links; 2 is a symbolic link"
abbrev pub is_hard : Entry → Bool
is_hard e = leb e.type 1

-- what the walk of a group is told: both K, the heap, and what to do at an entry with what was found so far
pub record Group (S : Type 0) : Type 0 where
  pub leaf_k : ℕ
  pub internal_k : ℕ
  pub heap : Heap
  pub visit : Entry → S → Result S

-- the last name met in the group (at first the empty one, which is below every name), and what was found so far
pub record GroupState (S : Type 0) : Type 0 where
  pub last : List ℕ
  pub found : S

-- a symbolic link's value, "at the heap offset in the first 4 scratch bytes"; of a hard link nothing
unfoldable pub read_value : Heap → List ℕ → Result (Unit {0})
read_value h b = if eqb (u32 b 16) 2 then read_text (value_text h (u32 b 24)) >> value tt else value tt

-- "Symbol entry, 40 bytes: name offset 8, header address 8, cache type 4, reserved 4, scratch 16 .. for a symbol entry: name, its place
-- among names and keys, type, link value, then .. the discovery of an object". b begins with the entry
unfoldable pub read_entry : {S : Type 0} → Group S → List Bound → List ℕ → GroupState S → Result (GroupState S)
read_entry g bounds b s = do
  name ← read_text (name_text g.heap (u64 b 0))
  check (below s.last name) 8
  check (within bounds name) 8
  check (leb (u32 b 16) 2) 8
  read_value g.heap b
  found ← g.visit (record { name = name; type = u32 b 16; header = u64 b 8 }) s.found
  value (record { last = name; found = found })
