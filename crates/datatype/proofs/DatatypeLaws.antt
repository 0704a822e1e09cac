-- Laws of the datatype message.
use Prim.Native.Nat.{ℕ, ◌+◌, ◌*◌, ◌≤◌, ◌<◌}
use mathlib.Core.Bool.{Bool, true, false}
use mathlib.Core.List.{List}
use mathlib.Core.Path.{◌≡◌}
use native.Mathlib.Omega.{arith}
use borrow.Author.Tests.{eq-eqb, ne_eqb, le-leb, lt-leb}
use lib.Dec.{leb, eqb}
use Rattle.std.specs.Prelude.{if◌then◌else◌}
use Rattle.format.specs.Bytes.{u8}
use Rattle.format.specs.Datatype.{class_read, has_bits, extent, shared_read}
use Rattle.walk.specs.Numbers.{Number}
use Rattle.walk.proofs.Tests.{range-below}
use Rattle.datatype.specs.Datatype.{bits_sound}

-- A class by the tests that code makes.
module _ (c : ℕ) where
  pub class_low : c ≤ 1 → true ≡ class_read c
  class_low h = rw (le-leb c 1 h)

  pub class-gap : 1 < c → c < 3 → false ≡ class_read c
  class-gap h k = rw (lt-leb c 1 h, range-below 3 5 c k)

  pub class-high : 1 < c → 3 ≤ c → leb c 5 ≡ class_read c
  class-high h k = rw (lt-leb c 1 h, le-leb 3 c k)

  pub bits-low : c ≤ 1 → true ≡ has_bits c
  bits-low h = rw (le-leb c 1 h)

  pub bits-high : 1 < c → eqb c 4 ≡ has_bits c
  bits-high h = rw (lt-leb c 1 h)

  pub extent-one : c ≡ 1 → 20 ≡ extent c
  extent-one h = rw (eq-eqb c 1 h)

  pub extent-bits : (c ≡ 1 → ⊥) → has_bits c ≡ true → 12 ≡ extent c
  extent-bits h e = rw (ne_eqb c 1 h, e)

  pub extent-plain : (c ≡ 1 → ⊥) → has_bits c ≡ false → 8 ≡ extent c
  extent-plain h e = rw (ne_eqb c 1 h, e)

least : (t u : Bool) → u ≡ true → 12 ≤ (if t then 20 else if u then 12 else 8)
least true u e = omega arith
least false u e = rw e (omega arith)

-- a class with bits needs the bytes that hold them
pub extent-holds : (c n : ℕ) → has_bits c ≡ true → extent c ≤ n → 12 ≤ n
extent-holds c n e h = omega (arith, least (eqb c 1) (has_bits c) e)

-- the precision was read as p
module _ {b : List ℕ} {p : ℕ} (precision : Number b 10 2 p) (size : ℕ) where
  pub bits-unsound : p < 1 → false ≡ bits_sound b size
  bits-unsound h = rw (← precision.value, lt-leb 1 p h)

  pub bits-decide : {o : ℕ} → Number b 8 2 o → 1 ≤ p → leb (o + p) (8 * size) ≡ bits_sound b size
  bits-decide {o} offset h = rw (← precision.value, ← offset.value, le-leb 1 p h)

-- a shared message, by its version and the type behind it
module _ (b : List ℕ) where
  pub shared-2 : u8 b 0 ≡ 2 → true ≡ shared_read b
  shared-2 h = rw (eq-eqb (u8 b 0) 2 h)

  pub shared-other : (u8 b 0 ≡ 2 → ⊥) → (u8 b 0 ≡ 3 → ⊥) → false ≡ shared_read b
  shared-other h k = rw (ne_eqb (u8 b 0) 2 h, ne_eqb (u8 b 0) 3 k)

  pub shared-3 : (u8 b 0 ≡ 2 → ⊥) → u8 b 0 ≡ 3 → eqb (u8 b 1) 2 ≡ shared_read b
  shared-3 h k = rw (ne_eqb (u8 b 0) 2 h, eq-eqb (u8 b 0) 3 k)
