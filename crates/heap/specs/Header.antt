-- A heap before its free list is followed, and what its reader returns.
use Rattle.std.specs.Prelude.{ℕ, ◌+◌, ◌≤◌, ◌≡◌, List, leb, eqb, length, Result, Ok, Err}
use Rattle.format.specs.Bytes.{part, u8, u32, u64}
use Rattle.format.specs.Walk.{Walk, ret, refuse, fault, enter_block, check, heap_block, segment_block, ◌>>=◌, ◌>>◌}
use Rattle.format.specs.Heap.{HEAP}
use Rattle.walk.specs.Lent.{Ended, ended, stopped}
use Rattle.heap.specs.declared.header.Heap.{Heap}
use Rattle.heap.specs.declared.header.Header.{Header}
use Rattle.format.specs.declared.Refusal.{Refusal}

-- a heap that was entered: its segment, the head of its free list, and the segment's address
pub record OpenHeap : Type 0 where
  pub segment : List ℕ
  pub head : ℕ
  pub place : ℕ

-- the tests of a header's bytes, at the address at, and what follows them
unfoldable pub header_tests : ℕ → List ℕ → Walk OpenHeap → Walk OpenHeap
header_tests at b rest = do
  check (eqb (u32 b 0) HEAP) (fault 7 at)
  check (eqb (u8 b 4) 0) (fault 7 at)
  check (leb 8 (u64 b 8)) (fault 9 at)
  rest

-- the walk of a heap up to its free list: the header, its tests, the segment
unfoldable pub open_walk : ℕ → Walk OpenHeap
open_walk at = do
  b ← enter_block heap_block at 32
  header_tests at b do
    seg ← enter_block segment_block (u64 b 24) (u64 b 8)
    ret (record { segment = seg; head = u64 b 16; place = u64 b 24 })

-- what follows a header's tests, or its answer
abbrev pub header_of : ℕ → Result Header ℕ → Walk OpenHeap → Walk OpenHeap
header_of at (Ok h) rest = rest
header_of at (Err n) rest = refuse (fault n at)

-- the fields are those of the header's bytes
abbrev pub FieldsOf : List ℕ → Result Header ℕ → Type 0
FieldsOf b (Ok h) = (h.size ≡ u64 b 8) × (h.head ≡ u64 b 16) × (h.address ≡ u64 b 24)
FieldsOf b (Err n) = Unit {0}

-- a header was read: its tests, whatever follows them, and its fields
pub record HeaderRead (b : List ℕ) (r : Result Header ℕ) : Type 0 where
  pub tested : (at : ℕ) (rest : Walk OpenHeap) → header_tests at b rest ≡ header_of at r rest
  pub fields : FieldsOf b r

-- the bytes of a heap's segment
abbrev pub segment_of : List ℕ → Heap → List ℕ
segment_of im h = part im h.segment h.size

-- the heap that the reader's numbers stand for
abbrev pub open_heap : List ℕ → Heap → OpenHeap
open_heap im h = record { segment = segment_of im h; head = h.head; place = h.segment }

-- how the reader's run ended, with so many blocks
abbrev pub open_end : List ℕ → ℕ → Result Heap Refusal → Ended OpenHeap
open_end im count (Ok h) = ended (open_heap im h) count
open_end im count (Err r) = stopped r

-- the segment lies in the image, before the end-of-file address
pub record SegmentInside (im : List ℕ) (eof : ℕ) (h : Heap) : Type 0 where
  pub image : h.segment + h.size ≤ length im
  pub file : h.segment + h.size ≤ eof

-- so does that of a heap that was entered
abbrev pub OpenedInside : List ℕ → ℕ → Result Heap Refusal → Type 0
OpenedInside im eof (Ok h) = SegmentInside im eof h
OpenedInside im eof (Err r) = Unit {0}
