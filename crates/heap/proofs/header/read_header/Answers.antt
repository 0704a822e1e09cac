-- The first test that fails decides, whatever follows; the fields are the numbers that were read.
use Prim.Native.Nat.{ℕ}
use mathlib.Core.Bool.{true}
use mathlib.Core.List.{List}
use mathlib.Core.Path.{◌≡◌, sym}
use borrow.Author.Tests.{eq-eqb, ne_eqb}
use lib.Dec.{eqb}
use Rattle.format.specs.Bytes.{little_endian, u8, u32}
use Rattle.format.specs.Heap.{HEAP}
use Rattle.walk.proofs.Tests.{field-equal, field-unequal, field-least, field_below}
use Rattle.heap.proofs.HeaderLaws.{header-unsigned, header-version, header-small, header-sound}
use native.Mathlib.Omega.{arith}
use Rattle.heap.proofs.header.read_header.Goals as goal

-- the signature stands at 0
signed : (b : List ℕ) {x : ℕ} → x ≡ u32 b 0 → x ≡ 1346454856 → eqb (u32 b 0) HEAP ≡ true
unfolding HEAP little_endian
signed b e f = field-equal (sym e) (omega arith)

pub returns-then-u32_at-ne-HEAP : goal.returns-then-u32_at-ne-HEAP
unfolding HEAP little_endian
returns-then-u32_at-ne-HEAP c = record {
  tested = λ at rest. header-unsigned at _ rest (field-unequal (sym c.u32_at.ensures.value) (λ e. omega arith));
  fields = tt;
}

pub returns-then-bytes-ne0 : goal.returns-then-bytes-ne0
returns-then-bytes-ne0 c = record {
  tested = λ at rest. header-version at _ rest (signed c.args.bytes.now c.u32_at.ensures.value c.if-u32_at-ne-HEAP.false)
      (ne_eqb (u8 c.args.bytes.now 4) 0 (λ e. omega arith));
  fields = tt;
}

-- the version is 0
pub returns-then-size-lt8 : goal.returns-then-size-lt8
returns-then-size-lt8 c = record {
  tested = λ at rest. header-small at _ rest (signed c.args.bytes.now c.u32_at.ensures.value c.if-u32_at-ne-HEAP.false)
      (eq-eqb (u8 c.args.bytes.now 4) 0 (omega arith)) (field_below (sym c.u64_at-size.ensures.value) (omega arith));
  fields = tt;
}

pub returns : goal.returns
returns c =
    let size = c.u64_at-size.ensures.value in record {
      tested = λ at rest. header-sound at _ rest (signed c.args.bytes.now c.u32_at.ensures.value c.if-u32_at-ne-HEAP.false)
          (eq-eqb (u8 c.args.bytes.now 4) 0 (omega arith)) (field-least (sym size) (omega arith));
      fields = (size, c.u64_at.ensures.value, c.u64_at-2.ensures.value);
    }
