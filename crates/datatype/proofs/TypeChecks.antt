-- The checks of the datatype message, one after the other.
use Prim.Native.Nat.{ℕ, ◌+◌, ◌*◌, ◌/◌, ◌%◌}
use mathlib.Core.Bool.{Bool, true, false, ◌&&◌}
use mathlib.Core.List.{List}
use mathlib.Core.Path.{◌≡◌, refl, sym, ◌∙◌}
use lib.Dec.{leb}
use lib.ListN.{length}
use Rattle.format.specs.Bytes.{◌implies◌, in_range, little_endian, part, u8, u16, u32}
use Rattle.format.specs.Datatype.{Datatype, own, class_read, has_bits, extent, read_datatype}
use Rattle.format.specs.Result.{Result, value, answer, check, ◌>>=◌, ◌>>◌}
use Rattle.walk.specs.Numbers.{Number}
use Rattle.laws.proofs.Results.{passes, fails}
use Rattle.datatype.specs.Datatype.{bits_sound}

-- what follows the check of the length, of the version, of the class, of the size, of the extent
module _ (b : List ℕ) where
  abbrev pub class_of : ℕ
  class_of = u8 b 0 % 16

  abbrev pub version_of : ℕ
  version_of = u8 b 0 / 16

  abbrev pub after_extent : Result Datatype
  after_extent = do
    check (has_bits class_of implies leb 1 (u16 b 10)) 11
    check (has_bits class_of implies leb (u16 b 8 + u16 b 10) (8 * u32 b 4)) 11
    value (own class_of version_of (little_endian (part b 1 3)) (u32 b 4))

  abbrev pub after_size : Result Datatype
  after_size = check (leb (extent class_of) (length b)) 11 >> after_extent

  abbrev pub after_class : Result Datatype
  after_class = check (leb 1 (u32 b 4)) 11 >> after_size

  abbrev pub after_version : Result Datatype
  after_version = check (class_read class_of) 3 >> after_class

  abbrev pub after_length : Result Datatype
  after_length = check (in_range 1 3 version_of) 3 >> after_version

  pub first-check : {x : Result Datatype} → x ≡ (check (leb 8 (length b)) 11 >> after_length) → x ≡ read_datatype b
  unfolding read_datatype
  first-check e = e

-- two checks with the same answer are one
both : {A : Type 0} (t p q : Bool) (n : ℕ) (w : Result A) → (check (t implies (p && q)) n >> w) ≡ (check (t implies p) n >> (check (t implies q) n >> w))
unfolding ◌>>=◌
both true true q n w = refl
both true false q n w = refl
both false p q n w = refl

-- the size was read as s, and t says whether the bits are sound
module _ (b : List ℕ) {s : ℕ} {t : Bool} (size : Number b 4 4 s) (e : t ≡ (has_bits (class_of b) implies bits_sound b s)) where
  joined : (check (has_bits (class_of b) implies bits_sound b s) 11 >> value (own (class_of b) (version_of b) (little_endian (part b 1 3)) s)) ≡ after_extent b
  joined = rw (← size.value) (both (has_bits (class_of b)) (leb 1 (u16 b 10)) (leb (u16 b 8 + u16 b 10) (8 * s)) 11
      (value (own (class_of b) (version_of b) (little_endian (part b 1 3)) s)))

  pub unsound-bits : t ≡ false → answer 11 ≡ after_extent b
  unsound-bits f = fails 11 _ (sym e ∙ f) ∙ joined

  pub own_read : {bits : ℕ} → Number b 1 3 bits → t ≡ true → value (own (class_of b) (version_of b) bits s) ≡ after_extent b
  own_read n f = passes 11 _ (sym e ∙ f) (rw (← n.value)) ∙ joined
