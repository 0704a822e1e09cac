-- What the reader's answers mean: document 01's numbers and values for each case.
use Rattle.std.specs.Prelude.{ℕ, ◌^◌, ◌≤◌, ◌<◌, ◌≡◌, List, length, Result, Ok, Err}
use Rattle.format.specs.Limits.{image_most}
use Rattle.format.specs.Superblock.{opened, not_opened, version_shift}
use Rattle.superblock.specs.declared.Superblock.{Superblock}

-- an image that holds a superblock of version 0, and how far a version 1 moves its fields
pub record Shifted (im : List ℕ) (shift : ℕ) : Type 0 where
  pub holds : 96 ≤ length im
  pub value : shift ≡ version_shift im
  pub most : shift ≤ 4

abbrev pub superblock_of : Superblock → Rattle.format.specs.Superblock.Superblock
superblock_of s = record { size = s.size; leaf_k = s.leaf_k; internal_k = s.internal_k; end_of_file = s.end_of_file; root = s.root }

abbrev pub opening_of : Result Superblock ℕ → Rattle.format.specs.Superblock.Opening
opening_of (Ok s) = opened (superblock_of s)
opening_of (Err n) = not_opened n

-- the Ks of an opened image have two bytes, its end of file lies no further than the image's, fits 32 bits and is no longer than an image, and its
-- superblock has bytes
abbrev pub FieldsBounded : List ℕ → Result Superblock ℕ → Type 0
FieldsBounded im (Ok s) =
    (s.leaf_k < 65536) × (s.internal_k < 65536) × (s.end_of_file ≤ length im) × (s.end_of_file < 2 ^ 32) × (1 ≤ s.size)
    × (s.end_of_file ≤ image_most)
FieldsBounded im (Err n) = Unit {0}
