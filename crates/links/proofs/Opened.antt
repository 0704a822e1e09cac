-- What is known of the superblock of an image that can be opened: its size, and where its file ends.
use Prim.Native.Nat.{ℕ, ◌+◌, ◌≤◌}
use mathlib.Core.Bool.{Bool, true, false}
use mathlib.Core.List.{List}
use mathlib.Core.Path.{◌≡◌, refl, ap, sym}
use native.Mathlib.Omega.{arith}
use borrow.Author.Tests.{leb-true, leb-false}
use lib.Dec.{leb, eqb}
use lib.ListN.{length}
use Rattle.format.specs.Limits.{image_least, image_most}
use Rattle.std.specs.Prelude.{if◌then◌else◌}
use Rattle.format.specs.Bytes.{u8, u64}
use Rattle.format.specs.Superblock.{Superblock, opened, not_opened, version_shift, superblock_sound, superblock_fields, open_image}
use Rattle.walk.proofs.Tests.{all_held, range-below}
use Rattle.laws.proofs.Opening.{opened-tested}

pub shift-most : (im : List ℕ) → version_shift im ≤ 4
unfolding version_shift
shift-most im = go (eqb (u8 im 8) 1)
  where
    go : (t : Bool) → (if t then 4 else 0) ≤ 4
    go true = omega arith
    go false = omega arith

-- an image that can't be opened for another reason than its length has the least length
pub not_short : (im : List ℕ) (n : ℕ) → open_image im ≡ not_opened n → (n ≡ 1 → ⊥) → image_least ≤ length im
unfolding open_image
not_short im n e h = go (leb image_least (length im)) refl
  where
    go : (t : Bool) → leb image_least (length im) ≡ t → image_least ≤ length im
    go true q = leb-true _ _ q
    go false q = let one : not_opened 1 ≡ not_opened n = rw (range-below image_least image_most (length im) (leb-false _ _ q)) at e in absurd (h (sym cc))

module _ (im : List ℕ) (s : Superblock) (p : open_image im ≡ opened s) where
  end-most : leb (u64 im (40 + version_shift im)) (length im) ≡ true
  unfolding superblock_sound
  end-most =
      let one = all_held _ _ (opened-tested im s p).0.sound in
      let two = all_held _ _ one.1 in
      let three = all_held _ _ two.1 in
      let four = all_held _ _ three.1 in
      (all_held _ _ four.1).0

  -- the end of file is inside the image
  pub opened-end : s.end_of_file ≤ length im
  unfolding superblock_fields
  opened-end = omega (arith, leb-true (u64 im (40 + version_shift im)) (length im) end-most, ap (λ (t : Superblock). t.end_of_file) (opened-tested im s p).1)

  pub opened-size : 96 ≤ s.size
  unfolding superblock_fields
  opened-size = omega (arith, ap (λ (t : Superblock). t.size) (opened-tested im s p).1)
