-- Laws of blocks between two offsets.
use Prim.Native.Nat.{ℕ, ◌+◌, ◌≤◌, min, max}
use mathlib.Core.Bool.{false, and-false}
use mathlib.Core.List.{List, [], ◌∷◌, ◌++◌}
use mathlib.Core.Path.{◌≡◌, refl}
use native.Mathlib.Omega.{arith}
use borrow.Author.Tests.{le-ltb}
use Rattle.format.specs.Blocks.{Block, block, overlaps, overlaps_any}
use Rattle.free_list.specs.Spanned.{Spanned}

-- one block more
pub spanned-more : (low high off size : ℕ) (bs : List Block) → Spanned low high bs →
    Spanned (min low off) (max high (off + size)) (bs ++ (block off size ∷ []))
spanned-more low high off size [] s = (omega arith, omega arith, tt)
spanned-more low high off size (b ∷ bs) s = (omega (arith, s.0), omega (arith, s.1), spanned-more low high off size bs s.2)

-- bytes behind all blocks, and before all of them
module _ (low high off size : ℕ) where
  pub spanned-behind : high ≤ off → (bs : List Block) → Spanned low high bs → overlaps_any bs off size ≡ false
  unfolding overlaps_any overlaps
  spanned-behind h [] s = refl
  spanned-behind h (b ∷ bs) s = simp (le-ltb off (b.at + b.size) (omega (arith, s.1)), and-false, spanned-behind h bs s.2)

  pub spanned-before : off + size ≤ low → (bs : List Block) → Spanned low high bs → overlaps_any bs off size ≡ false
  unfolding overlaps_any overlaps
  spanned-before h [] s = refl
  spanned-before h (b ∷ bs) s = simp (le-ltb b.at (off + size) (omega (arith, s.0)), spanned-before h bs s.2)
