-- Laws of the layout message.
use Prim.Native.Nat.{ℕ, ◌+◌, ◌≤◌, ◌<◌}
use mathlib.Core.List.{List}
use mathlib.Core.Path.{◌≡◌, refl}
use borrow.Author.Tests.{le-leb, lt-leb}
use lib.ListN.{length}
use Rattle.format.specs.Layout.{read_compact, read_contiguous}
use Rattle.format.specs.Result.{value, answer}
use Rattle.walk.specs.Numbers.{Number}
use Rattle.laws.proofs.Results.{passes, fails}

-- the compact data's size was read as r
module _ (place : ℕ) {b : List ℕ} {r : ℕ} (size : Number b 2 2 r) where
  pub compact-short : length b < 4 + r → answer 11 ≡ read_compact place b
  unfolding read_compact
  compact-short h = rw (← size.value) (fails _ _ (lt-leb _ _ h))

  pub compact-read : 4 + r ≤ length b → value (record { class = 0; address = place + 4; size = r }) ≡ read_compact place b
  unfolding read_compact
  compact-read h = rw (← size.value) (passes _ _ (le-leb _ _ h) refl)

-- the contiguous data's address and size were read as a and r
pub contiguous-read : {b : List ℕ} {a r : ℕ} → Number b 2 8 a → Number b 10 8 r → 18 ≤ length b →
    value (record { class = 1; address = a; size = r }) ≡ read_contiguous b
unfolding read_contiguous
contiguous-read p q h = rw (← p.value, ← q.value) (passes _ _ (le-leb _ _ h) refl)
