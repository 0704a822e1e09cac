-- The first test that fails decides; a limit is known by its name.
use mathlib.Core.Path.{◌≡◌, ap, sym, ◌∙◌}
use mathlib.Core.Bool.{true}
use Prim.Native.Nat.{ℕ, ◌≤◌}
use mathlib.Core.List.{List}
use lib.Dec.{eqb}
use lib.ListN.{length}
use Rattle.format.specs.Limits.{image_least, image_most}
use Rattle.format.specs.Equal.{Equal}
use Rattle.format.specs.declared.Limits.{Limits}
use Rattle.format.specs.Bytes.{in_range, little_endian, u64}
use Rattle.format.specs.Superblock.{opened, signature, superblock_sound}
use Rattle.walk.proofs.Tests.{range-below, range-above, range_inside, field-equal, field-unequal}
use Rattle.superblock.proofs.SuperblockLaws.{superblock-fits, opening-1, opening-2, opening-3}
use Rattle.superblock.proofs.SuperblockLaws.{opening-4, opening-done, end-inside, end-small, end-most, size-least}
use native.Mathlib.Omega.{arith}
use Rattle.superblock.proofs.open.Goals as goal

-- the image's length is in range
in-range : (im : List ℕ) (l : Limits) → Equal l → l.image_least ≤ length im → length im ≤ l.image_most → in_range image_least image_most (length im) ≡ true
in-range im l e below above = range_inside image_least image_most _ (omega (arith, e.image_least_equal)) (omega (arith, e.image_most_equal))

-- and so it holds a superblock
holds : (im : List ℕ) (l : Limits) → Equal l → l.image_least ≤ length im → 96 ≤ length im
holds im l e below = omega (arith, e.image_least_equal, superblock-fits)

-- the signature stands at 0
signed : (im : List ℕ) (n : ℕ) → n ≡ u64 im 0 → n ≡ 0x0a1a0a0d46444889 → eqb (u64 im 0) signature ≡ true
unfolding signature little_endian
signed im n e h = field-equal (sym e) h

pub returns-then-image-limits : goal.returns-then-image-limits
returns-then-image-limits c =
    let limits = c.the_limits-limits.ensures in
    record {
      result_value = opening-1 _ (range-below image_least image_most _ (omega (arith, c.if-image-limits.true, limits.image_least_equal)));
      fields_bounded = tt;
    }

pub returns-then-limits-image : goal.returns-then-limits-image
returns-then-limits-image c =
    let limits = c.the_limits-limits.ensures in
    record {
      result_value = opening-1 _ (range-above image_least image_most _ (omega (arith, c.if-limits-image.true, limits.image_most_equal)));
      fields_bounded = tt;
    }

pub u64_at-requires : goal.u64_at-requires
u64_at-requires c = let h = holds _ _ c.the_limits-limits.ensures c.if-image-limits.false in omega arith

pub returns-then-u64_at-ne-SIGNATURE : goal.returns-then-u64_at-ne-SIGNATURE
unfolding signature little_endian
returns-then-u64_at-ne-SIGNATURE c = record {
  result_value = opening-2 _ (in-range _ _ c.the_limits-limits.ensures c.if-image-limits.false c.if-limits-image.false)
      (field-unequal (sym c.u64_at.ensures.value) c.if-u64_at-ne-SIGNATURE.true);
  fields_bounded = tt;
}

pub version_shift-shift-requires : goal.version_shift-shift-requires
version_shift-shift-requires c = holds _ _ c.the_limits-limits.ensures c.if-image-limits.false

pub returns-then-not-superblock_read : goal.returns-then-not-superblock_read
returns-then-not-superblock_read c =
    record {
      result_value = opening-3 _ (in-range _ _ c.the_limits-limits.ensures c.if-image-limits.false c.if-limits-image.false)
          (signed _ _ c.u64_at.ensures.value c.if-u64_at-ne-SIGNATURE.false)
          (sym c.superblock_read.ensures ∙ c.if-not-superblock_read.true);
      fields_bounded = tt;
    }

pub returns-then-not-superblock_sound : goal.returns-then-not-superblock_sound
returns-then-not-superblock_sound c =
    record {
      result_value = opening-4 _ (in-range _ _ c.the_limits-limits.ensures c.if-image-limits.false c.if-limits-image.false)
          (signed _ _ c.u64_at.ensures.value c.if-u64_at-ne-SIGNATURE.false)
          (sym c.superblock_read.ensures ∙ c.if-not-superblock_read.false)
          (sym c.superblock_sound.ensures ∙ c.if-not-superblock_sound.true);
      fields_bounded = tt;
    }

pub returns : goal.returns
returns c =
    let image = c.args.image.now in
    let sound : superblock_sound image ≡ true = sym c.superblock_sound.ensures ∙ c.if-not-superblock_sound.false in
    let f = c.superblock_fields.ensures in
    let inside = end-inside image _ f.result_value sound in record {
      result_value = ap opened f.result_value ∙ opening-done _
          (in-range _ _ c.the_limits-limits.ensures c.if-image-limits.false c.if-limits-image.false)
          (signed _ _ c.u64_at.ensures.value c.if-u64_at-ne-SIGNATURE.false)
          (sym c.superblock_read.ensures ∙ c.if-not-superblock_read.false) sound;
      fields_bounded = (
        f.leaf_k_bound.0,
        f.leaf_k_bound.1,
        inside,
        end-small image _ inside (in-range _ _ c.the_limits-limits.ensures c.if-image-limits.false c.if-limits-image.false),
        size-least image _ f.result_value,
        end-most image _ inside (in-range _ _ c.the_limits-limits.ensures c.if-image-limits.false c.if-limits-image.false),
      );
    }
