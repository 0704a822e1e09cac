-- Whether the string at a byte ends outside the free blocks, by that byte.
use Prim.Native.Nat.{ℕ, ◌+◌, ◌≤◌, ◌<◌}
use mathlib.Core.Bool.{Bool, true, false, not, ◌&&◌, ◌||◌}
use mathlib.Core.List.{List}
use mathlib.Core.Path.{◌≡◌, refl, ap, ◌∙◌}
use native.Mathlib.Omega.{arith}
use borrow.Author.Tests.{ltb-true, ltb-false, lt-ltb, le-ltb, eqb-true, eqb-false}
use lib.Dec.{ltb, eqb}
use lib.ListN.{length, get_or, drop}
use Rattle.format.specs.Blocks.{Block, overlaps_any}
use Rattle.format.specs.Names.{before_nul}
use Rattle.nul.proofs.NulLaws.{nul-here, nul-later, nul-none}
use Rattle.free_map.specs.FreeMap.{is_free, Wide}
use Rattle.free_map.proofs.RangeLaws.{overlaps-split}
use Rattle.string_ends.specs.Ends.{ends_outside}

-- a first byte that is free, or the others
first_byte : (t f o : Bool) → (t && not (f || o)) ≡ (not f && (t && not o))
first_byte true true o = refl
first_byte true false o = refl
first_byte false true o = refl
first_byte false false o = refl

-- the string at off
module _ (seg : List ℕ) (bs : List Block) (off : ℕ) where
  -- behind the segment there is no NUL
  pub ends-behind : length seg ≤ off → ends_outside seg bs off ≡ false
  unfolding ends_outside
  ends-behind h = rw (nul-none seg off h, le-ltb (off + 0) (length seg) (omega arith))

  -- by the byte at off
  module _ (h : off < length seg) where
    -- a NUL ends the string
    pub ends-here : get_or seg off 0 ≡ 0 → ends_outside seg bs off ≡ not (is_free bs off)
    unfolding ends_outside
    ends-here e = rw (nul-here seg off h e, lt-ltb (off + 0) (length seg) (omega arith))

    -- behind another byte the string goes on
    pub ends_next : Wide bs → (get_or seg off 0 ≡ 0 → ⊥) → ends_outside seg bs off ≡ (not (is_free bs off) && ends_outside seg bs (off + 1))
    unfolding ends_outside
    ends_next w n =
        let m = before_nul (drop (off + 1) seg) in
        let a : off + (1 + m) ≡ off + 1 + m = omega arith in
        let b : 1 + m + 1 ≡ 1 + (m + 1) = omega arith in
        rw (nul-later seg off h n, a, b, overlaps-split bs off 1 (m + 1) w)
        (first_byte (ltb (off + 1 + m) (length seg)) (is_free bs off) (overlaps_any bs (off + 1) (m + 1)))

  -- a free byte is no string's
  pub ends-free : Wide bs → is_free bs off ≡ true → ends_outside seg bs off ≡ false
  ends-free w f = go (ltb off (length seg)) refl (eqb (get_or seg off 0) 0) refl
    where
      go : (t : Bool) → ltb off (length seg) ≡ t → (u : Bool) → eqb (get_or seg off 0) 0 ≡ u → ends_outside seg bs off ≡ false
      go true p true q = ends-here (ltb-true _ _ p) (eqb-true _ _ q) ∙ ap not f
      go true p false q = ends_next (ltb-true _ _ p) w (eqb-false _ _ q) ∙ rw f
      go false p u q = ends-behind (ltb-false _ _ p)
