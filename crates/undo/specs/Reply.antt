-- What the words of an entry and the result of undo mean.
use Rattle.std.specs.Prelude.{ℕ, ◌/◌, ◌%◌, ◌^◌, ◌≡◌, List, length, Result, Ok, Err}
use Rattle.format.specs.Bytes.{to_words}
use Rattle.format.specs.Log.{Change}
use Rattle.format.specs.Answers.{UndoReply}

-- the change that an entry's two words give
abbrev pub change_of : ℕ → ℕ → Change
change_of field word = record { field = field; old = word / 2 ^ 32; new = word % 2 ^ 32 }

-- the words of a log of bytes: its whole eights
abbrev pub words_of : List ℕ → List ℕ
words_of log = to_words (length log / 8) log

-- the definition's reply, from the image that is left and the result
abbrev pub reply_of : List ℕ → Result ℕ ℕ → UndoReply
reply_of im (Ok writes) = record { number = 0; writes = writes; image = im }
reply_of im (Err number) = record { number = number; writes = 0; image = im }

-- a check passes where the answer is 0, and else gives it
abbrev pub CheckedAs : ℕ → Result (Unit {0}) ℕ → Type 0
CheckedAs answer (Ok u) = 0 ≡ answer
CheckedAs answer (Err number) = (number ≡ answer) × (number ≡ 0 → ⊥)
