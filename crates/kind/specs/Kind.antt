-- What the kind of an object is.
use Rattle.std.specs.Prelude.{ℕ, ◌+◌, ◌-◌, ◌≤◌, List, ◌≡◌, length, Result, Ok, Err}
use Rattle.format.specs.Bytes.{u16}
use Rattle.format.specs.declared.Refusal.{Refusal}
use Rattle.format.specs.Walk.{Walk, ret, refuse}
use Rattle.format.specs.Message.{Message}
use Rattle.format.specs.Header.{Object, group, dataset, committed, object_of}
use Rattle.walk.specs.Lent.{Ended, ended, stopped}
use Rattle.message.specs.Message.{message_of}
use Rattle.tally.specs.Tally.{message_at, Tallied}
use Rattle.message.specs.declared.Body.{Body}
use Rattle.tally.specs.declared.Tally.{Tally}
use Rattle.kind.specs.declared.HeaderRead.{HeaderRead}
use Rattle.kind.specs.declared.HeaderRead.TheVariants.{Group, Dataset, Committed}

-- a message's head stands before the place, and its body lies inside the image
pub record Located (im : List ℕ) (place : ℕ) : Type 0 where
  pub head : 8 ≤ place
  pub body : place + u16 im (place - 6) ≤ length im

-- the body at a place, as a message of any type has it
pub record BodyAt (im : List ℕ) (place : ℕ) (b : Body) : Type 0 where
  pub is : (type : ℕ) → message_of im type b ≡ message_at im type place
  pub inside : b.place + b.size ≤ length im

-- the object, with the number of blocks then entered, or the refusal
abbrev pub header_end : List ℕ → ℕ → Result HeaderRead Refusal → Ended Object
header_end im count (Ok (Group tree heap)) = ended (group tree heap) count
header_end im count (Ok (Dataset b)) =
    ended (dataset (message_of im 0x0001 b.space) (message_of im 0x0003 b.datatype) (message_of im 0x0008 b.layout)) count
header_end im count (Ok Committed) = ended committed count
header_end im count (Err r) = stopped r

-- the bodies of a dataset lie inside the image
abbrev pub BodiesInside : List ℕ → Result HeaderRead Refusal → Type 0
BodiesInside im (Ok (Group tree heap)) = Unit {0}
BodiesInside im (Ok (Dataset b)) =
    (b.space.place + b.space.size ≤ length im) × (b.datatype.place + b.datatype.size ≤ length im) × (b.layout.place + b.layout.size ≤ length im)
BodiesInside im (Ok Committed) = Unit {0}
BodiesInside im (Err r) = Unit {0}

-- the walk of an object that is known, with so many blocks entered
abbrev pub KnownAs : Walk Object → ℕ → Ended Object → Type 0
KnownAs w count (ended o n) = (w ≡ ret o) × (n ≡ count)
KnownAs w count (stopped r) = w ≡ refuse r

-- the object is known by the messages of the tally, however many blocks are entered
pub record KindIs (im : List ℕ) (at : ℕ) (t : Tally) (r : Result HeaderRead Refusal) : Type 0 where
  pub known : (ms : List Message) (count : ℕ) → Tallied im ms t → KnownAs (object_of at ms) count (header_end im count r)
  pub bodies : BodiesInside im r
