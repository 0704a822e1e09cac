-- What the command prints for what it reads.
use Rattle.std.specs.Prelude.{ℕ, ◌≤◌, List, take, Result, Ok, Err}
use Rattle.input.specs.Reading.{Reads}
use Rattle.output.specs.Text.{Printed}
use Rattle.std.specs.declared.io.Error.{Error}

-- reads from the buffer's start on leave so many bytes, the last of them so many, and what is printed is the command's text for these bytes
pub record Answered (buffer buffer' out out' : List ℕ) (n : ℕ) : Type 0 where
  pub length : ℕ
  pub last : ℕ
  pub reads : Reads {E = Error} buffer 0 buffer' (Ok (record { length = length; last = last }))
  pub printed : Printed (take length buffer') out out' n

abbrev pub Responds : List ℕ → List ℕ → List ℕ → List ℕ → Result ℕ Error → Type 0
Responds buffer buffer' out out' (Ok n) = Answered buffer buffer' out out' n
Responds buffer buffer' out out' (Err e) = Reads buffer 0 buffer' (Err e)

-- no more is printed than there is room for
abbrev pub TextWithin : ℕ → Result ℕ Error → Type 0
TextWithin long (Ok n) = n ≤ long
TextWithin long (Err e) = Unit {0}
