-- Laws of the header block as it is shown, and of its messages.
use Prim.Native.Nat.{ℕ, ◌+◌, ◌-◌, ◌≤◌, ◌<◌, min}
use mathlib.Core.Bool.{true, false}
use mathlib.Core.List.{List, [], append-nil}
use mathlib.Core.Logic.{◌⊎◌, inr}
use mathlib.Core.Path.{◌≡◌, refl, ap, sym, ◌∙◌}
use native.Mathlib.Omega.{arith}
use borrow.Author.Tests.{le-leb, eq-eqb, ne_eqb}
use lib.Dec.{eqb}
use lib.ListN.{length, get_or, drop, drop_of_length-le}
use Rattle.format.specs.Bytes.{part, little_endian, u8, u32}
use Rattle.format.specs.Result.{Result}
use Rattle.format.specs.Walk.{Walk, header_block, shown, stored, length_in, known_length}
use Rattle.format.specs.Header.{Gathered, messages}
use Rattle.format.specs.Message.{Message, of_type}
use Rattle.walk.specs.Lent.{blocks_of}
use Rattle.walk.specs.Numbers.{Number}
use Rattle.laws.proofs.Blank.{header-shown, blank-other, blank-length, blank_part, blank-drop}
use Rattle.walk.proofs.BlockList.{length-blocks_of}
use Rattle.walk.proofs.Parts.{part_length, part-byte, part-part, drop-part}
use Rattle.scan.specs.Scan.{MessagesAre, Holds}
use Rattle.continuations.specs.Continuations.{Waiting}
use Rattle.continuations.proofs.ContinuationLaws.{cursor}

-- The header block of n bytes at `at`, as a walk is shown it.
module _ (im : List ℕ) (at n : ℕ) (inside : at + n ≤ length im) (head : 16 ≤ n) where
  abbrev b : List ℕ
  b = shown header_block (part im at n)

  pub version-shown : u8 b 0 ≡ get_or im at 0
  version-shown =
      let e : at + 0 ≡ at = omega arith in
      ap (λ (x : List ℕ). get_or x 0 0) (header-shown (part im at n)) ∙ blank-other (part im at n) 0 (λ h. omega arith) ∙ part-byte im at n 0 (omega arith)
      ∙ ap (λ (x : ℕ). get_or im x 0) e

  -- a field that holds no byte of the count
  pub field-shown : (a m : ℕ) → (a + m ≤ 4) ⊎ (8 ≤ a) → a + m ≤ n → little_endian (part b a m) ≡ little_endian (part im (at + a) m)
  field-shown a m o l =
      ap (λ (x : List ℕ). little_endian (part x a m)) (header-shown (part im at n)) ∙ ap little_endian
      (blank_part (part im at n) a m o ∙ part-part im at n a m l)

  pub length-shown : length b ≡ n
  length-shown = ap length (header-shown (part im at n)) ∙ blank-length (part im at n) ∙ part_length im at n inside

  pub rest-shown : drop 16 b ≡ part im (at + 16) (n - 16)
  rest-shown = ap (drop 16) (header-shown (part im at n)) ∙ blank-drop (part im at n) 16 (omega arith) ∙ drop-part im at n 16

-- the length of a header: 16 bytes, and as many more as four bytes at 8 say
pub header-length : (im : List ℕ) (at size : ℕ) → at + 16 ≤ length im → Number im (at + 8) 4 size →
    16 + size ≡ length_in im header_block at (stored 16 (λ p. u32 p 8))
header-length im at size h n = ap (λ (x : ℕ). 16 + x) (n.value ∙ sym (field-shown im at 16 h (omega arith) 8 4 (inr (omega arith)) (omega arith)))

pub header-known : (im : List ℕ) (eof at size : ℕ) → at + 16 ≤ length im → at + 16 ≤ eof → Number im (at + 8) 4 size →
    known_length im eof header_block at (stored 16 (λ p. u32 p 8)) ≡ 16 + size
header-known im eof at size h k n = simp (le-leb (at + 16) eof k) (sym (header-length im at size h n))

-- the messages of the header block
pub block-messages : {S : Type 0} (visit : Message → S → Result S) (im : List ℕ) (at size : ℕ) (found : S) (w : Walk (Gathered S)) →
    at + (16 + size) ≤ length im →
    MessagesAre visit im (at + 16) (at + 16 + size) found w →
    messages visit (length (shown header_block (part im at (16 + size)))) (at + 16) (drop 16 (shown header_block (part im at (16 + size)))) found ≡ w
block-messages visit im at size found w h m =
    let d : 16 + size - 16 ≡ size = omega arith in
    let e : at + 16 + size - (at + 16) ≡ size = omega arith in
    rw (length-shown im at (16 + size) h (omega arith), rest-shown im at (16 + size) h (omega arith), d) (rw e at (m (16 + size) (omega arith)))

-- what waits behind the header block, which is the last of the list
pub first-waiting : (im ws : List ℕ) (count from end : ℕ) (ms : List Message) → 0 < count → Holds im from end ms →
    Waiting im ws count (cursor (count - 1) from end) (of_type 0x0010 ms)
first-waiting im ws count from end ms h o =
    let last : length (blocks_of count ws) ≤ count - 1 + 1 = rw length-blocks_of (omega arith) in
    let none = drop_of_length-le (blocks_of count ws) {i = count - 1 + 1} last in
    record { here = ms; later = []; block = omega arith; holds = o; behind = rw none refl; is = sym (append-nil (of_type 0x0010 ms)) }

-- a total that stops at 65,536 is compared as the number itself
pub total-equal : (n total x : ℕ) → total ≡ min n 65536 → x < 65536 → x ≡ total → eqb n x ≡ true
total-equal n total x e l h = eq-eqb n x (omega arith)

pub total-unequal : (n total x : ℕ) → total ≡ min n 65536 → x < 65536 → (x ≡ total → ⊥) → eqb n x ≡ false
total-unequal n total x e l h = ne_eqb n x (λ q. h (omega arith))
