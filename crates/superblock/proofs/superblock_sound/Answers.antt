-- The first test that fails decides; where all but the last pass, the last does.
use mathlib.Core.Path.{◌≡◌, ap, sym, ◌∙◌}
use mathlib.Core.Bool.{true}
use borrow.Author.Tests.{le-leb, lt-leb}
use Prim.Native.Nat.{ℕ, ◌+◌, ◌≤◌}
use mathlib.Core.List.{List}
use lib.Dec.{leb}
use lib.ListN.{length}
use Rattle.format.specs.Superblock.{version_shift, superblock_sound}
use Rattle.walk.proofs.Tests.{all-fails, all-passes, all-last, field-most, field-above, field-least, field_below}
use Rattle.superblock.proofs.SuperblockLaws.{shifted-field, shifted_end}
use Rattle.superblock.proofs.superblock_sound.Goals as goal
use Rattle.superblock.specs.Superblock.{Shifted}

size-passed : (im : List ℕ) (shift : ℕ) → Shifted im shift → 96 + shift ≤ length im → leb (96 + version_shift im) (length im) ≡ true
size-passed im shift s h = rw (shifted_end im shift s) (le-leb _ _ h)

pub returns-then-image-shift : goal.returns-then-image-shift
unfolding superblock_sound
returns-then-image-shift c =
    let s = c in
    all-fails _ (rw (shifted_end s.args.image.now s.args.shift s.requires) (lt-leb _ _ c.if-image-shift.true))

pub returns-then-u16_at-lt1 : goal.returns-then-u16_at-lt1
unfolding superblock_sound
returns-then-u16_at-lt1 c =
    all-passes _ (size-passed _ _ c.requires c.if-image-shift.false)
    (all-fails _ (field_below (sym c.u16_at.ensures.value) c.if-u16_at-lt1.true))

pub returns-then-u16_at-lt1-2 : goal.returns-then-u16_at-lt1-2
unfolding superblock_sound
returns-then-u16_at-lt1-2 c =
    let second = c in
    all-passes _ (size-passed _ _ second.requires second.if-image-shift.false)
    (all-passes _ (field-least (sym second.u16_at.ensures.value) second.if-u16_at-lt1.false)
    (all-fails _ (field_below (sym c.u16_at-2.ensures.value) c.if-u16_at-lt1-2.true)))

pub returns-then-u32_at-gt1 : goal.returns-then-u32_at-gt1
unfolding superblock_sound
returns-then-u32_at-gt1 c =
    let third = c in
    let second = third in
    let s = second in
    all-passes _ (size-passed _ _ second.requires second.if-image-shift.false)
    (all-passes _ (field-least (sym second.u16_at.ensures.value) second.if-u16_at-lt1.false)
    (all-passes _ (field-least (sym third.u16_at-2.ensures.value) third.if-u16_at-lt1-2.false)
    (all-fails _ (field-above (shifted-field s.args.image.now s.args.shift 72 4 _ s.requires c.u32_at.ensures) c.if-u32_at-gt1.true))))

pub returns : goal.returns
unfolding superblock_sound
returns c =
    let fourth = c in
    let third = fourth in
    let second = third in
    let s = second in
    all-passes _ (size-passed _ _ second.requires second.if-image-shift.false)
    (all-passes _ (field-least (sym second.u16_at.ensures.value) second.if-u16_at-lt1.false)
    (all-passes _ (field-least (sym third.u16_at-2.ensures.value) third.if-u16_at-lt1-2.false)
    (all-passes _ (field-most (shifted-field s.args.image.now s.args.shift 72 4 _ s.requires fourth.u32_at.ensures) fourth.if-u32_at-gt1.false)
    (sym (ap (λ (x : ℕ). leb x (length s.args.image.now)) (shifted-field s.args.image.now s.args.shift 40 8 _ s.requires c.u64_at.ensures))
    ∙ all-last _))))
