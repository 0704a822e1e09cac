-- Laws of the strings of a segment whose last NUL is known.
use Prim.Native.Nat.{ℕ, ◌+◌, ◌≤◌, ◌<◌}
use mathlib.Core.Bool.{Bool, true, false}
use mathlib.Core.List.{List, []}
use mathlib.Core.Path.{◌≡◌, refl}
use native.Mathlib.Omega.{arith}
use borrow.Author.Tests.{lt-ltb, le-ltb, ltb-true, ltb-false}
use lib.Dec.{ltb}
use lib.ListN.{length, drop}
use Rattle.format.specs.Blocks.{Block, overlaps_any}
use Rattle.format.specs.Heap.{Heap}
use Rattle.format.specs.Names.{NameFault, outside, no_nul, bad_form, in_free_block, text}
use Rattle.format.specs.Names.{fault, before_nul, string_at, key_text, name_text, value_text, outside_free, is_name}
use Rattle.walk.proofs.Parts.{part_length}
use Rattle.heap.specs.Segment.{heap_with}
use Rattle.nul.specs.Nul.{LastNul}
use Rattle.nul.proofs.NulLaws.{ends, no_end}

-- A key, by the tests that lead to each answer.
module _ (seg : List ℕ) (ended off : ℕ) (free : List Block) where
  pub key-outside : length seg ≤ off → fault outside ≡ key_text (heap_with seg free) off
  unfolding key_text
  key-outside h = rw (le-ltb off (length seg) h)

  module _ (l : LastNul seg ended) where
    pub key-no-nul : off < length seg → ended ≤ off → fault no_nul ≡ key_text (heap_with seg free) off
    unfolding key_text
    key-no-nul h k =
        let e = no_end seg ended off l k (omega arith) in
        rw (lt-ltb off (length seg) h, le-ltb (off + before_nul (drop off seg)) (length seg) (omega (arith, e)))

    pub key-sound : off < ended → text (string_at seg off) ≡ key_text (heap_with seg free) off
    unfolding key_text
    key-sound h = rw (lt-ltb off (length seg) (omega (arith, l.within)), lt-ltb (off + before_nul (drop off seg)) (length seg) (ends seg ended off l h))

    key-inside : {s : List ℕ} → text s ≡ key_text (heap_with seg free) off → off < ended
    key-inside {s} e = go (ltb off ended) refl (ltb off (length seg)) refl
      where
        never : {f : NameFault} → fault f ≡ key_text (heap_with seg free) off → off < ended
        never {f} g = let z : ◌≡◌ {A = ℕ} 0 1 = cc in absurd (omega arith)

        go : (t : Bool) → ltb off ended ≡ t → (u : Bool) → ltb off (length seg) ≡ u → off < ended
        go true p u q = ltb-true off ended p
        go false p true q = never (key-no-nul (ltb-true off (length seg) q) (ltb-false off ended p))
        go false p false q = never (key-outside (ltb-false off (length seg) q))

-- a key that was checked begins before the last NUL or at it
pub key-checked : {seg : List ℕ} {ended : ℕ} (off : ℕ) → LastNul seg ended →
    ((free : List Block) → (s : List ℕ) × (text s ≡ key_text (heap_with seg free) off)) → off < ended
key-checked {seg} {ended} off l k = key-inside seg ended off [] l (k []).1

-- A name and a link value, by the string that stands there.
module _ (h : Heap) (off : ℕ) where
  module _ {f : NameFault} (e : fault f ≡ key_text h off) where
    pub name-fault : fault f ≡ name_text h off
    unfolding name_text
    name-fault = rw (← e)

    pub value-fault : fault f ≡ value_text h off
    unfolding value_text
    value-fault = rw (← e)

  module _ {t : List ℕ} (e : text t ≡ key_text h off) where
    pub name-bad : is_name t ≡ false → fault bad_form ≡ name_text h off
    unfolding name_text
    name-bad n = rw (← e, n)

    pub name_free : is_name t ≡ true → outside_free h off (text t) ≡ name_text h off
    unfolding name_text
    name_free n = rw (← e, n)

    pub value-free : outside_free h off (text t) ≡ value_text h off
    unfolding value_text
    value-free = rw (← e)

-- a string and its NUL, against the free blocks
module _ (h : Heap) (off : ℕ) (t : List ℕ) where
  pub free-hit : overlaps_any h.free off (length t + 1) ≡ true → fault in_free_block ≡ outside_free h off (text t)
  free-hit e = rw e

  pub free-missed : overlaps_any h.free off (length t + 1) ≡ false → text t ≡ outside_free h off (text t)
  free-missed e = rw e

-- how long the string is
pub string-length : (seg : List ℕ) (off : ℕ) → off + before_nul (drop off seg) ≤ length seg → length (string_at seg off) ≡ before_nul (drop off seg)
unfolding string_at
string-length seg off h = part_length seg off (before_nul (drop off seg)) h
