-- A list in which one block more was entered, and the number of blocks that it was compared with.
use Prim.Native.Nat.{ℕ, ◌+◌, ◌^◌, ◌≤◌, ◌<◌}
use mathlib.Core.List.{List}
use mathlib.Core.Path.{◌≡◌}
use native.Mathlib.Omega.{arith}
use Rattle.format.specs.Blocks.{entry_answer}
use Rattle.walk.specs.Lent.{blocks_of, Lent, Added, entering, IsEntered}
use Rattle.std.specs.Prelude.{Ok}
use Rattle.walk.proofs.BlockList.{length-blocks_of, entered-zero, entry_answer-zero}
use Rattle.walk.proofs.Owners.{added-lent}

pub entered-lent : (eof room kind a m n : ℕ) (ws ws₁ : List ℕ) (c : ℕ) → Lent ws n room →
    IsEntered (entry_answer eof room (blocks_of n ws) a m) ws n kind a m ws₁ →
    Ok c ≡ entering (entry_answer eof room (blocks_of n ws) a m) kind a m (blocks_of n ws) n → Lent ws₁ c room × (c ≡ n + 1)
entered-lent eof room kind a m n ws ws₁ c l q p =
    let z = entered-zero kind a m (blocks_of n ws) (entry_answer eof room (blocks_of n ws) a m) n c p in
    let y : n < room = rw length-blocks_of at (entry_answer-zero eof room (blocks_of n ws) a m z.0).2 in
    let w : Added ws n kind a m ws₁ = rw z.0 at q in
    (rw z.1 (added-lent ws ws₁ n room kind a m l y w), z.1)

-- so few were compared with each block up to now, in a list with so many places
abbrev pub Few : ℕ → ℕ → Type 0
Few places most = (m : ℕ) → places < 2 ^ m → most ≤ m + 10

pub few-less : (places count tests : ℕ) → count ≤ places → ((m : ℕ) → count < 2 ^ m → tests ≤ m + 10) → Few places tests
few-less places count tests h f m l = f m (omega (arith, h, l))
