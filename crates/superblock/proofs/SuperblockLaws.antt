-- Laws of the superblock.
use Prim.Native.Nat.{ℕ, ◌+◌, ◌≤◌, ◌<◌, ◌^◌}
use mathlib.Core.Bool.{Bool, true, false}
use mathlib.Core.List.{List, []}
use mathlib.Core.Path.{◌≡◌, sym}
use native.Mathlib.Omega.{arith}
use borrow.Author.Tests.{leb-true}
use lib.Dec.{eqb, leb, lit≤}
use lib.ListN.{length}
use Rattle.format.specs.Limits.{image_least, image_most}
use Rattle.format.specs.Bytes.{in_range, little_endian, part, u16, u32, u64}
use Rattle.format.specs.Superblock.{Superblock, version_shift, opened, not_opened}
use Rattle.format.specs.Superblock.{signature, superblock_read, superblock_sound, superblock_fields, open_image}
use Rattle.walk.specs.Numbers.{Number}
use Rattle.walk.proofs.Tests.{all_held, range-most}
use Rattle.laws.proofs.ImageLength.{image-small}
use Rattle.superblock.specs.Superblock.{Shifted}

-- a field behind byte 23 has the value that was read with the shift
pub shifted-field : (im : List ℕ) (shift at n r : ℕ) → Shifted im shift → Number im (at + shift) n r → little_endian (part im (at + version_shift im) n) ≡ r
shifted-field im shift at n r s v = rw (← s.value) (sym v.value)

pub shifted_end : (im : List ℕ) (shift : ℕ) → Shifted im shift → 96 + version_shift im ≡ 96 + shift
shifted_end im shift s = rw (← s.value)

-- the least image holds a superblock
pub superblock-fits : 96 ≤ image_least
unfolding image_least
superblock-fits = lit≤ tt

-- What opening an image gives, by the first test that fails.
module _ (im : List ℕ) where
  abbrev sized : Bool
  sized = in_range image_least image_most (length im)

  abbrev signed : Bool
  signed = eqb (u64 im 0) signature

  pub opening-1 : sized ≡ false → not_opened 1 ≡ open_image im
  unfolding open_image
  opening-1 e = rw e

  pub opening-2 : sized ≡ true → signed ≡ false → not_opened 2 ≡ open_image im
  unfolding open_image
  opening-2 e f = rw (e, f)

  pub opening-3 : sized ≡ true → signed ≡ true → superblock_read im ≡ false → not_opened 3 ≡ open_image im
  unfolding open_image
  opening-3 e f g = rw (e, f, g)

  pub opening-4 : sized ≡ true → signed ≡ true → superblock_read im ≡ true → superblock_sound im ≡ false → not_opened 4 ≡ open_image im
  unfolding open_image
  opening-4 e f g h = rw (e, f, g, h)

  pub opening-done : sized ≡ true → signed ≡ true → superblock_read im ≡ true → superblock_sound im ≡ true → opened (superblock_fields im) ≡ open_image im
  unfolding open_image
  opening-done e f g h = rw (e, f, g, h)

-- the end of file of a sound superblock lies no further than the image's
pub end-inside : (im : List ℕ) (s : Superblock) → s ≡ superblock_fields im → superblock_sound im ≡ true → s.end_of_file ≤ length im
unfolding superblock_sound superblock_fields
end-inside im s e h =
    let a = all_held (leb (96 + version_shift im) (length im)) _ h in
    let b = all_held (leb 1 (u16 im 16)) _ a.1 in
    let c = all_held (leb 1 (u16 im 18)) _ b.1 in
    let d = all_held (leb (u32 im (72 + version_shift im)) 1) _ c.1 in
    let f = all_held (leb (u64 im (40 + version_shift im)) (length im)) [] d.1 in
    rw e (leb-true _ _ f.0)

pub size-least : (im : List ℕ) (s : Superblock) → s ≡ superblock_fields im → 1 ≤ s.size
unfolding superblock_fields
size-least im s e = rw e (omega arith)

-- the end of file of an image that isn't too long fits 32 bits
pub end-small : (im : List ℕ) (eof : ℕ) → eof ≤ length im → in_range image_least image_most (length im) ≡ true → eof < 2 ^ 32
end-small im eof h e = omega (arith, image-small (length im) e)

-- and is no longer than an image may be
pub end-most : (im : List ℕ) (eof : ℕ) → eof ≤ length im → in_range image_least image_most (length im) ≡ true → eof ≤ image_most
end-most im eof h e = omega (arith, range-most image_least image_most (length im) e)
