-- Laws of one message: what its bytes show is what stands in the image.
use Prim.Native.Nat.{ℕ, ◌+◌, ◌≤◌}
use mathlib.Core.Bool.{true}
use mathlib.Core.List.{List}
use mathlib.Core.Logic.{◌⊎◌, ⊎_elim}
use mathlib.Core.Path.{◌≡◌, ap, sym, ◌∙◌}
use native.Mathlib.Omega.{arith}
use borrow.Author.Tests.{leb-true}
use lib.Dec.{leb}
use lib.ListN.{length}
use Rattle.format.specs.Bytes.{◌implies◌, in_range, part, little_endian, u8, u16, u64}
use Rattle.walk.proofs.Parts.{part_length, part-byte, part-part}

-- a body with room for two fields of 8 bytes, where the type asks for them
pub fields-long : (kind size : ℕ) → true ≡ (in_range 0x0010 0x0011 kind implies leb 16 size) → (kind ≡ 0x0010) ⊎ (kind ≡ 0x0011) → 16 ≤ size
fields-long kind size e = ⊎_elim (λ k. leb-true 16 size (sym (rw k at e))) (λ k. leb-true 16 size (sym (rw k at e)))

-- the head of a message, in its n bytes at `at` and in the image
pub record Shown (im : List ℕ) (at n : ℕ) : Type 0 where
  pub long : length (part im at n) ≡ n
  pub type : u16 (part im at n) 0 ≡ u16 im at
  pub size : u16 (part im at n) 2 ≡ u16 im (at + 2)
  pub flags : u8 (part im at n) 4 ≡ u8 im (at + 4)

module _ (im : List ℕ) (at n : ℕ) (inside : at + n ≤ length im) (long : 8 ≤ n) where
  pub head-shown : Shown im at n
  head-shown =
      let e : at + 0 ≡ at = omega arith in
      record {
        long = part_length im at n inside;
        type = ap little_endian (part-part im at n 0 2 (omega arith)) ∙ ap (λ (x : ℕ). little_endian (part im x 2)) e;
        size = ap little_endian (part-part im at n 2 2 (omega arith));
        flags = part-byte im at n 4 (omega arith);
      }

  module _ (size : ℕ) (fits : 8 + size ≤ n) where
    pub body-there : part (part im at n) 8 size ≡ part im (at + 8) size
    body-there = part-part im at n 8 size fits

    -- the second field of a body
    pub second-there : 16 ≤ size → u64 (part (part im at n) 8 size) 8 ≡ u64 im (at + 8 + 8)
    second-there h = rw body-there (ap little_endian (part-part im (at + 8) size 8 8 (omega arith)))
