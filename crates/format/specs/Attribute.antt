-- The attribute message, versions 1 to 3 (FF IV.A.2.m), as far as the audit reads it: whether its datatype is shared, and from where.
-- "Only the audit reads attribute messages, of versions 1 to 3, but not the unshared datatypes and dataspaces in them."
use Rattle.std.specs.Prelude.{ℕ, ◌+◌, ◌*◌, ◌/◌, List, [], ◌∷◌, Bool, not, ◌&&◌, ◌||◌, length, leb, eqb, if◌then◌else◌}
use Rattle.format.specs.Bytes.{in_range, part, u8, u16, u64}
use Rattle.format.specs.Result.{Result, value, check, ◌>>=◌, ◌>>◌}
use Rattle.format.specs.Datatype.{shared_read}

-- the bytes that a part of n bytes takes: version 1 pads it to a multiple of 8, versions 2 and 3 don't
abbrev pub taken : ℕ → ℕ → ℕ
taken version n = if eqb version 1 then (n + 7) / 8 * 8 else n

-- where the name begins: version 3 has a byte for its character set before it
abbrev pub name_start : ℕ → ℕ
name_start version = if eqb version 3 then 9 else 8

-- bit 0 of the flags, which version 1 hasn't: there the byte is reserved
abbrev pub shares_type : List ℕ → Bool
shares_type b = not (eqb (u8 b 0) 1) && eqb (u8 b 1) 1

-- the address in a shared part: version, type, address at byte 2
unfoldable pub read_shared_part : List ℕ → Result (List ℕ)
read_shared_part p = do
  check (leb 10 (length p)) 10
  check (shared_read p) 3
  value (u64 p 2 ∷ [])

-- The addresses that an attribute with this body shares: one or none. "version, flags, name size, datatype size, dataspace size" in 8 bytes, in
-- version 3 the character set, then the parts: name, datatype, dataspace, data. A shared dataspace (bit 1) is a feature not read here.
-- "attributes whose parts leave their body, or whose shared part is too short, give 10"
unfoldable pub read_attribute : List ℕ → Result (List ℕ)
read_attribute b =
    let version = u8 b 0 in
    let start = name_start version + taken version (u16 b 2) in
    let end = start + taken version (u16 b 4) + taken version (u16 b 6) in
    let address = read_shared_part (part b start (u16 b 4)) in
    do
      check (leb 8 (length b)) 10
      check (in_range 1 3 version) 3
      check (eqb version 1 || leb (u8 b 1) 1) 3
      check (leb end (length b)) 10
      if shares_type b then address else value []
