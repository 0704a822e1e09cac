-- What the readers of messages return, as the definitions have it.
use Rattle.std.specs.Prelude.{ℕ, ◌+◌, ◌-◌, ◌≤◌, List, ◌≡◌, Result, Ok, Err}
use Rattle.format.specs.Bytes.{part, u8, u16}
use Rattle.format.specs.Result as reader
use Rattle.format.specs.Result.{value, answer}
use Rattle.format.specs.Message.{Message, stepped_over, is_read, not_read, read_message}
use Rattle.message.specs.declared.Body.{Body}
use Rattle.message.specs.declared.Treatment.{Treatment}
use Rattle.message.specs.declared.MessageRead.{MessageRead}
use Rattle.message.specs.declared.Treatment.TheVariants.{SteppedOver, IsRead, NotRead}

-- the message of a type that has this body in the image
abbrev pub message_of : List ℕ → ℕ → Body → Message
message_of im type b = record { type = type; flags = b.flags; body = part im b.place b.size; place = b.place }

abbrev pub treatment_of : Treatment → Rattle.format.specs.Message.Treatment
treatment_of SteppedOver = stepped_over
treatment_of IsRead = is_read
treatment_of NotRead = not_read

-- the message at `at`, or the answer
abbrev pub message_result : List ℕ → ℕ → Result MessageRead ℕ → reader.Result Message
message_result im at (Ok m) = value (message_of im m.kind (record { place = at + 8; size = m.size; flags = m.flags }))
message_result im at (Err n) = answer n

-- the message's fields stand at `at`, and its body ends at `end` or before
pub record Fields (im : List ℕ) (at end kind size flags : ℕ) : Type 0 where
  pub kind_there : kind ≡ u16 im at
  pub size_there : size ≡ u16 im (at + 2)
  pub flags_there : flags ≡ u8 im (at + 4)
  pub inside : at + 8 + size ≤ end
  -- a symbol table has two fields of 8 bytes
  pub long : kind ≡ 0x0011 → 16 ≤ size

abbrev pub FieldsIf : List ℕ → ℕ → ℕ → Result MessageRead ℕ → Type 0
FieldsIf im at end (Ok m) = Fields im at end m.kind m.size m.flags
FieldsIf im at end (Err n) = Unit {0}

-- a message was read as its reader reads it
pub record MessageIs (im : List ℕ) (at end : ℕ) (r : Result MessageRead ℕ) : Type 0 where
  pub walk : message_result im at r ≡ read_message at (part im at (end - at))
  pub fields : FieldsIf im at end r
