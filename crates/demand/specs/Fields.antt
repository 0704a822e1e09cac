-- The fields that a mend writes.
use Rattle.std.specs.Prelude.{ℕ, ◌+◌, ◌^◌, ◌≤◌, ◌<◌, ◌⊎◌, ◌≡◌, length}
use mathlib.Core.List.{List, Memᴰ}
use Rattle.format.specs.Bytes.{u32}
use Rattle.format.specs.Log.{Change}
use Rattle.found.specs.Beside.{Beside}

-- the corrections cs of an image that ends at eof
pub record Fields (im : List ℕ) (eof : ℕ) (cs : List Change) : Type 0 where
  -- a field lies in the first 16 bytes of its header, behind 96 bytes of the superblock, inside the end of file and the image
  pub behind : (c : Change) → Memᴰ c cs → 96 + 4 ≤ c.field
  pub inside : (c : Change) → Memᴰ c cs → c.field + 12 ≤ eof
  pub image : (c : Change) → Memᴰ c cs → c.field + 12 ≤ length im
  -- it holds the old count, which isn't the new one
  pub stored : (c : Change) → Memᴰ c cs → c.old ≡ u32 im c.field
  pub wrong : (c : Change) → Memᴰ c cs → c.old ≡ c.new → ⊥
  -- two corrections are the same, or their headers' first 16 bytes share none
  pub apart : (c d : Change) → Memᴰ c cs → Memᴰ d cs → (c ≡ d) ⊎ Beside c.field 16 d.field 16

-- all counts fit four bytes
pub record Small (cs : List Change) : Type 0 where
  pub old : (c : Change) → Memᴰ c cs → c.old < 2 ^ 32
  pub new : (c : Change) → Memᴰ c cs → c.new < 2 ^ 32
