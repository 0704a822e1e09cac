-- What the readers of keys return.
use Rattle.std.specs.Prelude.{ℕ, ◌+◌, ◌*◌, ◌≤◌, List, [], ◌≡◌, length, Result, Ok, Err}
use Rattle.format.specs.Limits.{name_most}
use Rattle.format.specs.Bytes.{part, u64}
use Rattle.format.specs.Walk.{Walk, ret, refuse}
use Rattle.format.specs.Heap.{Heap}
use Rattle.format.specs.Names.{string_at, key_text, text, below}
use Rattle.format.specs.Tree.{keys_walk}
use Rattle.heap.specs.Segment.{heap_with}
use Rattle.range.specs.Range.{NameInside, name_in}
use Rattle.range.specs.declared.Name.{Name}
use Rattle.format.specs.declared.Refusal.{Refusal}

abbrev pub keys_of : Result (Unit {0}) Refusal → Walk (Unit {0})
keys_of (Ok u) = ret tt
keys_of (Err r) = refuse r

-- n keys from `from` on were read as their walk reads them, in a heap with this segment, from any part of the image that holds them
abbrev pub KeysAre : List ℕ → List ℕ → ℕ → ℕ → Result (Unit {0}) Refusal → Type 0
KeysAre im seg from n r = (h : Heap) (m : ℕ) → h.segment ≡ seg → 16 * n ≤ m + 8 → from + m ≤ length im → keys_of r ≡ keys_walk h n from (part im from m)

-- a key stands at `at`, and it is a string of the segment
pub record KeyAt (im seg : List ℕ) (at : ℕ) : Type 0 where
  pub inside : at + 8 ≤ length im
  pub sound : (t : List ℕ) × (key_text (heap_with seg []) (u64 im at) ≡ text t)

-- this is the string or its beginning, and no name tells the two apart
pub record KeyIs (im seg : List ℕ) (at : ℕ) (r : Name) : Type 0 where
  pub inside : NameInside seg r
  pub alike : (t : List ℕ) → length t ≤ name_most → below (name_in seg r) t ≡ below (string_at seg (u64 im at)) t
