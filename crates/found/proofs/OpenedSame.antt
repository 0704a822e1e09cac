-- An image opens the same where it differs only behind the superblock.
use Prim.Native.Nat.{ℕ, ◌+◌, ◌≤◌, ◌<◌}
use mathlib.Core.List.{List}
use mathlib.Core.Logic.{inr}
use mathlib.Core.Path.{◌≡◌, ap, ◌∙◌}
use native.Mathlib.Omega.{arith}
use lib.ListN.{get_or}
use Rattle.format.specs.Bytes.{part}
use Rattle.format.specs.Walk.{superblock_block, shown}
use Rattle.format.specs.Superblock.{version_shift, versions_read}
use Rattle.format.specs.Superblock.{sizes_read, addresses_read, superblock_read, superblock_sound, superblock_fields, open_image}
use Rattle.laws.specs.CountFields.{OnlyCounts}
use Rattle.laws.proofs.CountFields.{shown-same}
use Rattle.links.proofs.Opened.{shift-most}

module _ (H : ℕ → Type 0) (im im' : List ℕ) (d : OnlyCounts H im im') (behind : (h : ℕ) → H h → 96 ≤ h) where
  byte-same : (i : ℕ) → i < 96 → get_or im i 0 ≡ get_or im' i 0
  byte-same i l = d.elsewhere i (λ h m f. omega (arith, behind h m, f.0))

  part_same : (a n : ℕ) → a + n ≤ 96 → part im a n ≡ part im' a n
  unfolding shown
  part_same a n l = shown-same H im im' d superblock_block a n (λ h m. inr (inr (omega (arith, behind h m))))

  shift_same : version_shift im ≡ version_shift im'
  unfolding version_shift
  shift_same = rw (byte-same 8 (omega arith))

  -- a field whose place depends on the version
  shifted-same : (a n : ℕ) → a + 4 + n ≤ 96 → part im (a + version_shift im) n ≡ part im' (a + version_shift im') n
  shifted-same a n l = part_same (a + version_shift im) n (omega (arith, shift-most im)) ∙ ap (λ (v : ℕ). part im' (a + v) n) shift_same

  read_same : superblock_read im ≡ superblock_read im'
  unfolding superblock_read versions_read sizes_read addresses_read
  read_same =
      let b8 = byte-same 8 (omega arith) in
      let b9 = byte-same 9 (omega arith) in
      let b10 = byte-same 10 (omega arith) in
      let b12 = byte-same 12 (omega arith) in
      let b13 = byte-same 13 (omega arith) in
      let b14 = byte-same 14 (omega arith) in
      let base = shifted-same 24 8 (omega arith) in
      let free = shifted-same 32 8 (omega arith) in
      let driver = shifted-same 48 8 (omega arith) in
      cc

  sound-same : superblock_sound im ≡ superblock_sound im'
  unfolding superblock_sound
  sound-same =
      let long = d.same_length in
      let shift = shift_same in
      let leaf = part_same 16 2 (omega arith) in
      let internal = part_same 18 2 (omega arith) in
      let link = shifted-same 72 4 (omega arith) in
      let end = shifted-same 40 8 (omega arith) in
      cc

  fields-same : superblock_fields im ≡ superblock_fields im'
  unfolding superblock_fields
  fields-same =
      let shift = shift_same in
      let leaf = part_same 16 2 (omega arith) in
      let internal = part_same 18 2 (omega arith) in
      let root = shifted-same 64 8 (omega arith) in
      let end = shifted-same 40 8 (omega arith) in
      cc

  pub opened-same : open_image im ≡ open_image im'
  unfolding open_image
  opened-same = rw (d.same_length, part_same 0 8 (omega arith), read_same, sound-same, fields-same)
