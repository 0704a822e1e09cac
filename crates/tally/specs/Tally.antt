-- What a tally says of a list of messages.
use Rattle.std.specs.Prelude.{ℕ, ◌+◌, ◌-◌, ◌≤◌, min, List, ◌≡◌, length}
use Rattle.format.specs.Bytes.{part, u8, u16}
use Rattle.format.specs.Message.{Message, of_type, the_message}
use Rattle.tally.specs.declared.Occurrence.{Occurrence}
use Rattle.tally.specs.declared.Occurrence.TheVariants.{Absent, Once, Repeated}
use Rattle.tally.specs.declared.Tally.{Tally}

-- the message of a type whose body begins at a place: its size and its flags stand 6 and 4 bytes before
abbrev pub message_at : List ℕ → ℕ → ℕ → Message
message_at im type place = record { type = type; flags = u8 im (place - 4); body = part im place (u16 im (place - 6)); place = place }

-- a message's head stands before the place, its body lies inside the image, and a symbol table has two fields of 8 bytes
pub record Placed (im : List ℕ) (type place : ℕ) : Type 0 where
  pub head : 8 ≤ place
  pub body : place + u16 im (place - 6) ≤ length im
  pub long : type ≡ 0x0011 → 16 ≤ u16 im (place - 6)

-- what there is of the messages of a type, and the first of them
abbrev pub IsFirst : List ℕ → List Message → ℕ → Occurrence → Type 0
IsFirst im ms type Absent = length (of_type type ms) ≡ 0
IsFirst im ms type (Once place) =
    (length (of_type type ms) ≡ 1) × (the_message type ms ≡ message_at im type place) × Placed im type place
IsFirst im ms type (Repeated place) =
    (2 ≤ length (of_type type ms)) × (the_message type ms ≡ message_at im type place) × Placed im type place

pub record Tallied (im : List ℕ) (ms : List Message) (t : Tally) : Type 0 where
  pub total : t.total ≡ min (length ms) 65536
  pub space : IsFirst im ms 0x0001 t.space
  pub datatype : IsFirst im ms 0x0003 t.datatype
  pub layout : IsFirst im ms 0x0008 t.layout
  pub table : IsFirst im ms 0x0011 t.table

-- the tally is one of some messages
abbrev pub HasTally : List ℕ → Tally → Type 0
HasTally im t = (sofar : List Message) × Tallied im sofar t
