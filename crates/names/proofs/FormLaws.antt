-- A name, by how many bytes it has and the free blocks.
use Prim.Native.Nat.{ℕ, ◌+◌, ◌<◌}
use mathlib.Core.Bool.{true, false}
use mathlib.Core.List.{List, []}
use mathlib.Core.Path.{◌≡◌, sym, ◌∙◌}
use native.Mathlib.Omega.{arith}
use lib.ListN.{length, drop}
use Rattle.format.specs.Bytes.{part}
use Rattle.format.specs.Blocks.{Block, overlaps_any}
use Rattle.format.specs.Names.{bad_form, in_free_block, text, fault, before_nul, string_at, key_text, name_text, is_name}
use Rattle.heap.specs.Segment.{heap_with}
use Rattle.nul.specs.Nul.{LastNul}
use Rattle.nul.proofs.NulLaws.{ends}
use Rattle.std.specs.Prelude.{Some, None}
use Rattle.names.specs.Sizes.{name_size}
use Rattle.names.proofs.NameLaws.{key-sound, name-bad, name_free, free-hit, free-missed, string-length}
use Rattle.names.proofs.SizeLaws.{name-none, name-some}

-- the name at off, which ends in the segment and has n bytes, or is none
module _ (seg : List ℕ) (ended off : ℕ) (bs : List Block) (l : LastNul seg ended) (h : off < ended) where
  pub name-formless : name_size seg off ≡ None → fault bad_form ≡ name_text (heap_with seg bs) off
  name-formless z = name-bad (heap_with seg bs) off (key-sound seg ended off bs l h) (name-none seg off (ends seg ended off l h) z)

  module _ {n : ℕ} (e : name_size seg off ≡ Some n) where
    whole : n ≡ before_nul (drop off seg)
    whole = (name-some seg off (ends seg ended off l h) e).1

    pub name-inside : off + n < length seg
    name-inside = omega (arith, whole, ends seg ended off l h)

    -- the bytes read are the string
    string : part seg off n ≡ string_at seg off
    unfolding string_at
    string = rw whole

    sized : length (part seg off n) ≡ n
    sized = rw string (string-length seg off (omega (arith, ends seg ended off l h)) ∙ sym whole)

    read : text (part seg off n) ≡ key_text (heap_with seg bs) off
    read = rw string (key-sound seg ended off bs l h)

    formed : is_name (part seg off n) ≡ true
    formed = rw string (name-some seg off (ends seg ended off l h) e).0

    pub name-hit : overlaps_any bs off (n + 1) ≡ true → fault in_free_block ≡ name_text (heap_with seg bs) off
    name-hit o = free-hit (heap_with seg bs) off (part seg off n) (rw sized o) ∙ name_free (heap_with seg bs) off read formed

    pub name-missed : overlaps_any bs off (n + 1) ≡ false → text (part seg off n) ≡ name_text (heap_with seg bs) off
    name-missed o = free-missed (heap_with seg bs) off (part seg off n) (rw sized o) ∙ name_free (heap_with seg bs) off read formed

    -- no free block
    pub name-alone : bs ≡ [] → text (part seg off n) ≡ name_text (heap_with seg bs) off
    unfolding overlaps_any
    name-alone z = name-missed (rw z)
