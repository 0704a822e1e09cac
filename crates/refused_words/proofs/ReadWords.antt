-- What is taken from bytes is bytes, and a number read from bytes fits its width.
use Prim.Native.Nat.{ℕ, zero, suc, ◌+◌, ◌^◌, ◌<◌}
use mathlib.Core.Bool.{Bool, true, false}
use mathlib.Core.List.{List, [], ◌∷◌}
use native.Mathlib.Nat.{pow-suc}
use native.Mathlib.Omega.{arith}
use lib.ListN.{take, drop, set}
use lib.Seq.{get_or-drop}
use Rattle.std.specs.Prelude.{if◌then◌else◌}
use Rattle.format.specs.Bytes.{little_endian, part, u16, u32, u64}
use Rattle.format.specs.Walk.{Kind, is_header, blank_count, shown}
use Rattle.demand.specs.Bytes.{IsBytes}
use Rattle.demand.proofs.BytesBack.{part_bytes}
use Rattle.refused_words.specs.Words.{IsWord}

pub drop-bytes : (n : ℕ) (b : List ℕ) → IsBytes b → IsBytes (drop n b)
drop-bytes n b h k = rw (get_or-drop n b k 0) (h (n + k))

set-bytes : (b : List ℕ) (i : ℕ) → IsBytes b → IsBytes (set b i 0)
set-bytes [] i h k = h k
set-bytes (x ∷ b) zero h zero = omega arith
set-bytes (x ∷ b) zero h (suc k) = h (suc k)
set-bytes (x ∷ b) (suc i) h zero = h 0
set-bytes (x ∷ b) (suc i) h (suc k) = set-bytes b i (λ j. h (suc j)) k

blank-bytes : (b : List ℕ) → IsBytes b → IsBytes (blank_count b)
unfolding blank_count
blank-bytes b h =
    set-bytes (set (set (set b 4 0) 5 0) 6 0) 7 (set-bytes (set (set b 4 0) 5 0) 6 (set-bytes (set b 4 0) 5 (set-bytes b 4 h)))

-- what a walk is shown of an image
pub shown-bytes : (im : List ℕ) (v : Kind) (a n : ℕ) → IsBytes im → IsBytes (shown v (part im a n))
unfolding shown
shown-bytes im v a n h = go (is_header v) (part_bytes im a n h)
  where
    go : (t : Bool) → IsBytes (part im a n) → IsBytes (if t then blank_count (part im a n) else part im a n)
    go true k = blank-bytes (part im a n) k
    go false k = k

number_small : (n : ℕ) (b : List ℕ) → IsBytes b → little_endian (take n b) < 256 ^ n
unfolding little_endian
number_small zero b h = omega arith
number_small (suc n) [] h = rw pow-suc (omega (arith, number_small n [] h))
number_small (suc n) (x ∷ b) h = rw pow-suc (omega (arith, h 0, number_small n b (λ k. h (suc k))))

module _ (b : List ℕ) (a : ℕ) (h : IsBytes b) where
  pub u16-small : u16 b a < 2 ^ 16
  u16-small = number_small 2 (drop a b) (drop-bytes a b h)

  pub u32-small : u32 b a < 2 ^ 32
  u32-small = number_small 4 (drop a b) (drop-bytes a b h)

  pub u64-word : IsWord (u64 b a)
  u64-word = number_small 8 (drop a b) (drop-bytes a b h)
