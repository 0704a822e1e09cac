-- What the audit has found, in three lists of numbers, and what the functions over it return and leave.
use Rattle.std.specs.Prelude.{ℕ, ◌+◌, ◌^◌, ◌≤◌, ◌<◌, Bool, true, false, List, [], ◌≡◌, length, Result, Ok, Err}
use Rattle.format.specs.Limits.{objects_most}
use Rattle.format.specs.Blocks.{Block}
use Rattle.format.specs.Result as reader
use Rattle.format.specs.Result.{value, answer}
use Rattle.format.specs.Ledger.{Linked}
use Rattle.format.specs.Sharing.{Found, share, share_each, shared_by, not_committed}
use Rattle.walk.specs.Lent.{length_sum}
use Rattle.laws.specs.Blocks.{Fresh, Inside}
use Rattle.datatype.specs.Datatype.{type_of}
use Rattle.datatype.specs.declared.Datatype.{Datatype}
use Rattle.ledger.specs.Links.{link_sum}
use Rattle.ledger.specs.Table.{linked_of, Table}

-- the objects of the table, and what is known of each
abbrev pub found_of : (addresses counts marks : List ℕ) (objects : ℕ) → Found
found_of addresses counts marks objects = record { objects = linked_of objects addresses counts; marks = marks }

-- what is found after a sharing, or the answer to it
abbrev pub sharing_result : (addresses counts marks : List ℕ) → Result ℕ ℕ → reader.Result Found
sharing_result addresses counts marks (Ok objects) = value (found_of addresses counts marks objects)
sharing_result addresses counts marks (Err n) = answer n

-- a table with a mark for every object, and room for so many links more
pub record Tables (addresses counts marks : List ℕ) (objects spare : ℕ) : Type 0 where
  pub table : Table addresses counts objects
  pub marked : objects_most ≤ length marks
  pub fits : link_sum (linked_of objects addresses counts) + spare < 2 ^ 32

-- the table is one again, with n links more at most
pub record Kept (addresses counts : List ℕ) (objects n : ℕ) (addresses' counts' marks' : List ℕ) (objects' : ℕ) : Type 0 where
  pub table : Table addresses' counts' objects'
  pub marked : objects_most ≤ length marks'
  pub links : link_sum (linked_of objects' addresses' counts') ≤ link_sum (linked_of objects addresses counts) + n

-- so after a sharing that wasn't refused
abbrev pub KeptThen : (addresses counts : List ℕ) (objects n : ℕ) (addresses' counts' marks' : List ℕ) → Result ℕ ℕ → Type 0
KeptThen addresses counts objects n addresses' counts' marks' (Ok objects') = Kept addresses counts objects n addresses' counts' marks' objects'
KeptThen addresses counts objects n addresses' counts' marks' (Err number) = Unit {0}

-- Links and sharings found are at most the bytes of the blocks entered, even with so many to spare; the blocks lie inside the end of file, and
-- no byte is in two of them. So no count outgrows the file.
pub record Counting (addresses counts marks : List ℕ) (objects eof : ℕ) (bs : List Block) (spare : ℕ) : Type 0 where
  pub small : eof < 2 ^ 32
  pub apart : Fresh [] bs
  pub inside : Inside eof bs
  pub table : Table addresses counts objects
  pub marked : objects_most ≤ length marks
  pub links : link_sum (linked_of objects addresses counts) + spare ≤ length_sum bs

-- a sharing of the address was counted and marked as the definition does it
pub record Shared (addresses counts marks : List ℕ) (objects address : ℕ) (addresses' counts' marks' : List ℕ) (r : Result ℕ ℕ) : Type 0 where
  pub walk : sharing_result addresses' counts' marks' r ≡ share address (found_of addresses counts marks objects)
  pub kept : KeptThen addresses counts objects 1 addresses' counts' marks' r
  pub addresses_same : length addresses' ≡ length addresses
  pub counts_same : length counts' ≡ length counts
  pub marks_same : length marks' ≡ length marks

-- what a dataset's datatype shares was counted
pub record TypeShared (addresses counts marks : List ℕ) (objects : ℕ) (t : Datatype) (addresses' counts' marks' : List ℕ) (r : Result ℕ ℕ) : Type 0 where
  pub walk : sharing_result addresses' counts' marks' r ≡ share_each (shared_by (type_of t)) (found_of addresses counts marks objects)
  pub kept : KeptThen addresses counts objects 1 addresses' counts' marks' r

-- what is found once a kind is known, or that the object was shared
abbrev pub kind_result : List Linked → List ℕ → Bool → reader.Result Found
kind_result os marks true = value (record { objects = os; marks = marks })
kind_result os marks false = answer 10

-- the kind of the object at a place is known, and it is no committed datatype
pub record KindKnown (marks : List ℕ) (place : ℕ) (marks' : List ℕ) (r : Bool) : Type 0 where
  pub walk : (os : List Linked) → kind_result os marks' r ≡ not_committed place (record { objects = os; marks = marks })
  pub marks_same : length marks' ≡ length marks
