-- A link value, by the free blocks.
use Prim.Native.Nat.{ℕ, ◌+◌, ◌-◌, ◌<◌}
use mathlib.Core.Bool.{true, false, not}
use mathlib.Core.List.{List, []}
use mathlib.Core.Path.{◌≡◌, refl, sym, ◌∙◌}
use native.Mathlib.Omega.{arith}
use borrow.Author.Tests.{lt-ltb, not-true, not-false}
use lib.ListN.{length, drop}
use Rattle.format.specs.Blocks.{Block, overlaps_any}
use Rattle.format.specs.Names.{in_free_block, text, fault, before_nul, string_at, value_text}
use Rattle.heap.specs.Segment.{heap_with}
use Rattle.nul.specs.Nul.{LastNul, NulWithin}
use Rattle.nul.proofs.NulLaws.{ends}
use Rattle.free_list.specs.FreeBlocks.{chain}
use Rattle.string_ends.specs.Ends.{ends_outside}
use Rattle.names.proofs.NameLaws.{key-sound, value-free, free-hit, free-missed, string-length}

-- where the string ends in the segment, the free bytes decide
pub free-decides : (seg : List ℕ) (bs : List Block) (off n : ℕ) → off + before_nul (drop off seg) < length seg → n ≡ before_nul (drop off seg) + 1 →
    not (overlaps_any bs off n) ≡ ends_outside seg bs off
unfolding ends_outside
free-decides seg bs off n h e = rw (e, lt-ltb (off + before_nul (drop off seg)) (length seg) h)

-- where a string ends, whose end was looked for up to the segment's
pub nul-found : {seg : List ℕ} {off end : ℕ} → off + before_nul (drop off seg) < length seg → NulWithin seg off (length seg - off) end →
    end ≡ off + before_nul (drop off seg)
nul-found h n = omega (arith, n.value)

-- no blocks are followed
pub none-followed : (seg : List ℕ) (head : ℕ) {free : ℕ} → free ≡ 0 → chain free seg head ≡ []
unfolding chain
none-followed seg head e = rw e

-- the value at off, which ends in the segment
module _ (seg : List ℕ) (ended off : ℕ) (bs : List Block) (l : LastNul seg ended) (h : off < ended) where
  -- the bytes before the NUL
  sized : length (string_at seg off) ≡ before_nul (drop off seg)
  sized = string-length seg off (omega (arith, ends seg ended off l h))

  -- a byte of the string or its NUL is free
  hit : overlaps_any bs off (before_nul (drop off seg) + 1) ≡ true → fault in_free_block ≡ value_text (heap_with seg bs) off
  hit e = free-hit (heap_with seg bs) off (string_at seg off) (rw sized e) ∙ value-free (heap_with seg bs) off (key-sound seg ended off bs l h)

  missed : overlaps_any bs off (before_nul (drop off seg) + 1) ≡ false → text (string_at seg off) ≡ value_text (heap_with seg bs) off
  missed e = free-missed (heap_with seg bs) off (string_at seg off) (rw sized e) ∙ value-free (heap_with seg bs) off (key-sound seg ended off bs l h)

  -- no free block
  pub value-alone : bs ≡ [] → text (string_at seg off) ≡ value_text (heap_with seg bs) off
  unfolding overlaps_any
  value-alone z = missed (rw z)

  decided : ends_outside seg bs off ≡ not (overlaps_any bs off (before_nul (drop off seg) + 1))
  decided = sym (free-decides seg bs off _ (ends seg ended off l h) refl)

  pub value-sound : ends_outside seg bs off ≡ true → text (string_at seg off) ≡ value_text (heap_with seg bs) off
  value-sound e = missed (not-true _ (sym decided ∙ e))

  pub value-in-free : ends_outside seg bs off ≡ false → fault in_free_block ≡ value_text (heap_with seg bs) off
  value-in-free e = hit (not-false _ (sym decided ∙ e))
