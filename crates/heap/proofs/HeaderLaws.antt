-- Laws of a heap's walk: its parts, and the tests of its header.
use Prim.Native.Nat.{ℕ}
use mathlib.Core.Bool.{true, false}
use mathlib.Core.List.{List}
use mathlib.Core.Path.{◌≡◌, refl, ap, sym, ◌∙◌}
use lib.Dec.{leb, eqb}
use Rattle.format.specs.Bytes.{u8, u32, u64}
use Rattle.format.specs.Walk.{Walk, ret, refuse, fault, located, enter, fixed, heap_block, segment_block, ◌>>=◌}
use Rattle.format.specs.FreeList.{free_list}
use Rattle.format.specs.Heap.{HEAP, heap_walk}
use Rattle.laws.proofs.Bind.{bind_assoc, ret-bind}
use Rattle.laws.proofs.Checks.{check-passes, check-fails}
use Rattle.heap.specs.Segment.{heap_with}
use Rattle.heap.specs.Header.{OpenHeap, header_tests, open_walk, HeaderRead}
use Rattle.heap.specs.declared.header.Header.{Header}
use Rattle.std.specs.Prelude.{Result, Ok, Err}

-- a heap's walk enters it, then follows its free list
pub heap-opened : (at : ℕ) →
    heap_walk at ≡ (open_walk at >>= λ o. (located o.place (free_list o.segment o.head) >>= λ free. ret (heap_with o.segment free)))
unfolding heap_walk open_walk header_tests
heap-opened at = simp (bind_assoc, ret-bind)

-- the walk from the segment on, by the header's fields
abbrev pub segment_walk : ℕ → ℕ → ℕ → Walk OpenHeap
segment_walk size head address = enter segment_block address (fixed size) (λ seg. ret (record { segment = seg; head = head; place = address }))

-- the walk from the header's tests on
abbrev pub body_walk : ℕ → List ℕ → Walk OpenHeap
body_walk at b = header_tests at b (segment_walk (u64 b 8) (u64 b 16) (u64 b 24))

pub open-parts : (at : ℕ) → open_walk at ≡ enter heap_block at (fixed 32) (body_walk at)
unfolding open_walk header_tests ◌>>=◌
open-parts at = refl

-- The tests of a header, by the first that fails.
module _ (at : ℕ) (b : List ℕ) (rest : Walk OpenHeap) where
  pub header-unsigned : eqb (u32 b 0) HEAP ≡ false → header_tests at b rest ≡ refuse (fault 7 at)
  unfolding header_tests
  header-unsigned e = check-fails _ (fault 7 at) _ e

  pub header-version : eqb (u32 b 0) HEAP ≡ true → eqb (u8 b 4) 0 ≡ false → header_tests at b rest ≡ refuse (fault 7 at)
  unfolding header_tests
  header-version e f = check-passes _ (fault 7 at) _ e ∙ check-fails _ (fault 7 at) _ f

  pub header-small : eqb (u32 b 0) HEAP ≡ true → eqb (u8 b 4) 0 ≡ true → leb 8 (u64 b 8) ≡ false → header_tests at b rest ≡ refuse (fault 9 at)
  unfolding header_tests
  header-small e f g = check-passes _ (fault 7 at) _ e ∙ check-passes _ (fault 7 at) _ f ∙ check-fails _ (fault 9 at) _ g

  pub header-sound : eqb (u32 b 0) HEAP ≡ true → eqb (u8 b 4) 0 ≡ true → leb 8 (u64 b 8) ≡ true → header_tests at b rest ≡ rest
  unfolding header_tests
  header-sound e f g = check-passes _ (fault 7 at) _ e ∙ check-passes _ (fault 7 at) _ f ∙ check-passes _ (fault 9 at) _ g

-- what is left behind a header, by what was read
pub header-fields : {b b' : List ℕ} (at : ℕ) (r : Header) → b' ≡ b → HeaderRead b' (Ok r) → body_walk at b ≡ segment_walk r.size r.head r.address
header-fields {b} {b'} at r e h =
    rw (← e)
    (h.tested at _
    ∙ ap (λ (s : ℕ). segment_walk s (u64 b' 16) (u64 b' 24)) (sym h.fields.0)
    ∙ ap (λ (f : ℕ). segment_walk r.size f (u64 b' 24)) (sym h.fields.1)
    ∙ ap (λ (a : ℕ). segment_walk r.size r.head a) (sym h.fields.2))

pub header-wrong : {b b' : List ℕ} (at n : ℕ) → b' ≡ b → HeaderRead b' (Err n) → body_walk at b ≡ refuse (fault n at)
header-wrong at n e h = rw (← e) (h.tested at _)

pub same-header : {b : List ℕ} {r r' : Result Header ℕ} → r ≡ r' → HeaderRead b r → HeaderRead b r'
same-header e h = rw e at h
