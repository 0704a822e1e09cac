-- A free block's tests, and the map that has it where they pass.
use Prim.Native.Nat.{ℕ, ◌+◌, ◌≤◌, ◌<◌}
use mathlib.Core.Bool.{Bool, true, false, not}
use mathlib.Core.List.{List, [], ◌∷◌, ◌++◌}
use mathlib.Core.Path.{◌≡◌, refl, ap, sym, ◌∙◌}
use native.Mathlib.Omega.{arith}
use borrow.Author.Tests.{le-leb, lt-leb}
use lib.ListN.{length}
use Rattle.format.specs.Bytes.{u64}
use Rattle.format.specs.Blocks.{Block, block, overlaps_any}
use Rattle.walk.proofs.Tests.{all-fails, all-passes, all-last, field-least, field_below}
use Rattle.free_map.specs.FreeMap.{MapOf}
use Rattle.free_list.specs.FreeBlocks.{chain, block_sound, BlockAdded}

-- the block's first 16 bytes are not all in the segment
pub fields-outside : (seg : List ℕ) (off : ℕ) → length seg < off + 16 → (bs : List Block) → false ≡ block_sound seg bs off
unfolding block_sound
fields-outside seg off h bs = all-fails _ (lt-leb (off + 16) (length seg) h)

-- they are, and own was read as the block's size
module _ (seg : List ℕ) (off own : ℕ) (inside : off + 16 ≤ length seg) (e : own ≡ u64 seg (off + 8)) where
  pub too_small : own < 16 → (bs : List Block) → false ≡ block_sound seg bs off
  unfolding block_sound
  too_small h bs = all-passes _ (le-leb (off + 16) (length seg) inside) (all-fails _ (field_below (sym e) h))

  pub block-outside : 16 ≤ own → length seg < off + own → (bs : List Block) → false ≡ block_sound seg bs off
  unfolding block_sound
  block-outside h k bs =
      all-passes _ (le-leb (off + 16) (length seg) inside)
      (all-passes _ (field-least (sym e) h) (all-fails _ (rw (← e) (lt-leb (off + own) (length seg) k))))

  -- the last test decides
  pub overlap-decides : 16 ≤ own → off + own ≤ length seg → (bs : List Block) {r : Bool} → r ≡ overlaps_any bs off own → not r ≡ block_sound seg bs off
  unfolding block_sound
  overlap-decides h k bs f =
      all-passes _ (le-leb (off + 16) (length seg) inside)
      (all-passes _ (field-least (sym e) h)
      (all-passes _ (rw (← e) (le-leb (off + own) (length seg) k)) (ap not (f ∙ ap (overlaps_any bs off) e) ∙ all-last _)))

-- a block that fails a test leaves the map as it is
pub not-added : {seg map : List ℕ} {head met off : ℕ} → false ≡ block_sound seg (chain met seg head) off → BlockAdded seg map head met off map false
not-added h = record { sound = h; added = λ e. let z : ◌≡◌ {A = ℕ} 0 1 = cc in absurd (omega arith); long = refl }

-- one that passes them is added to a map that has cells
pub was-added : {seg map map' : List ℕ} {head met off : ℕ} (own : ℕ) → own ≡ u64 seg (off + 8) → length map' ≡ length map →
    true ≡ block_sound seg (chain met seg head) off → (0 < length map' → MapOf map' seg (chain met seg head ++ (block off own ∷ []))) →
    BlockAdded seg map head met off map' true
was-added own e l h k = record { sound = h; added = λ t p. rw e at (k p); long = l }
