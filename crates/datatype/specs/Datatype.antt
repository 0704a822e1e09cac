-- What the datatype readers' answers mean.
use Rattle.std.specs.Prelude.{ℕ, ◌+◌, ◌*◌, Bool, ◌&&◌, List, leb, Ok, Err}
use Rattle.format.specs.Bytes.{u16}
use Rattle.format.specs.Datatype.{own, shared_at}
use Rattle.format.specs.Result.{Result, value, answer}
use Rattle.datatype.specs.declared.Datatype.{Datatype}
use Rattle.datatype.specs.declared.Datatype.TheVariants.{Own, Shared}
use Rattle.std.specs.Prelude as std

-- a datatype as the definitions have it
abbrev pub type_of : Datatype → Rattle.format.specs.Datatype.Datatype
type_of (Own class version bits size) = own class version bits size
type_of (Shared address) = shared_at address

-- the answer as the end of the message's walk
abbrev pub type_result : std.Result Datatype ℕ → Result Rattle.format.specs.Datatype.Datatype
type_result (Ok t) = value (type_of t)
type_result (Err n) = answer n

-- "precision is 1 or more and offset plus precision is at most 8 times size"
abbrev pub bits_sound : List ℕ → ℕ → Bool
bits_sound b size = leb 1 (u16 b 10) && leb (u16 b 8 + u16 b 10) (8 * size)
