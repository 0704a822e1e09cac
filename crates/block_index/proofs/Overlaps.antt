-- Two blocks that share a byte, and two that don't.
use Prim.Native.Nat.{ℕ, ◌+◌, ◌≤◌, ◌<◌}
use mathlib.Core.Bool.{true, false, and-false}
use mathlib.Core.Path.{◌≡◌}
use borrow.Author.Tests.{lt-ltb, le-ltb}
use Rattle.format.specs.Blocks.{block_of, overlaps}

pub overlaps-hit : (v b m a n : ℕ) → b < a + n → a < b + m → overlaps (block_of v b m) a n ≡ true
unfolding overlaps
overlaps-hit v b m a n h k = simp (lt-ltb b (a + n) h, lt-ltb a (b + m) k)

pub overlaps-not-below : (v b m a n : ℕ) → a + n ≤ b → overlaps (block_of v b m) a n ≡ false
unfolding overlaps
overlaps-not-below v b m a n h = simp (le-ltb b (a + n) h)

pub overlaps-not-above : (v b m a n : ℕ) → b + m ≤ a → overlaps (block_of v b m) a n ≡ false
unfolding overlaps
overlaps-not-above v b m a n h = simp (le-ltb a (b + m) h, and-false)
