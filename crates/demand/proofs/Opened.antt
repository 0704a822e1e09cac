-- What is known of an image that can be opened: its length and its first bytes.
use Prim.Native.Nat.{ℕ, ◌+◌, ◌*◌, ◌^◌, ◌≤◌}
use mathlib.Core.Bool.{true}
use mathlib.Core.List.{List}
use mathlib.Core.Path.{◌≡◌, ap, ◌∙◌}
use native.Mathlib.Omega.{arith}
use borrow.Author.Tests.{eqb-true, leb-true}
use lib.ListN.{length, drop, take}
use lib.Dec.{leb}
use lib.Seq.{take-add}
use Rattle.format.specs.Limits.{image_least, image_most}
use Rattle.format.specs.Bytes.{in_range, little_endian, part, u32, u64}
use Rattle.format.specs.Superblock.{Superblock, opened, signature, version_shift, superblock_sound, open_image}
use Rattle.walk.proofs.LittleEndian.{little_endian-append}
use Rattle.walk.proofs.Parts.{part_length}
use Rattle.walk.proofs.Tests.{all_held}
use Rattle.laws.proofs.Opening.{opened-tested}

module _ (im : List ℕ) (s : Superblock) (p : open_image im ≡ opened s) where
  pub opened-range : in_range image_least image_most (length im) ≡ true
  opened-range = (opened-tested im s p).0.ranged

  pub opened-long : 96 ≤ length im
  unfolding superblock_sound
  opened-long =
      let first : leb (96 + version_shift im) (length im) ≡ true = (all_held _ _ (opened-tested im s p).0.sound).0 in
      omega (arith, leb-true (96 + version_shift im) (length im) first)

  -- the first four bytes are the signature's, which aren't zeros
  pub opened-first : u32 im 0 ≡ 0 → ⊥
  unfolding signature little_endian
  opened-first z =
      let whole : u64 im 0 ≡ u32 im 0 + 256 ^ length (part im 0 4) * little_endian (take 4 (drop 4 (drop 0 im))) =
      ap little_endian (take-add 4 4 (drop 0 im)) ∙ little_endian-append (part im 0 4) (take 4 (drop 4 (drop 0 im))) in
      let long : length (part im 0 4) ≡ 4 = part_length im 0 4 (omega (arith, opened-long)) in
      let split : u64 im 0 ≡ u32 im 0 + 256 ^ 4 * little_endian (take 4 (drop 4 (drop 0 im))) = rw long at whole in
      let is : u64 im 0 ≡ signature = eqb-true (u64 im 0) signature (opened-tested im s p).0.signed in
      omega arith
