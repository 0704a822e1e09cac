-- What reading the messages of a block returns.
use Rattle.std.specs.Prelude.{ℕ, ◌+◌, ◌-◌, ◌≤◌, ◌<◌, List, [], ◌∷◌, ◌++◌, ◌⊎◌, ◌≡◌, length, Result, Ok, Err}
use Rattle.format.specs.Bytes.{part, u16}
use Rattle.format.specs.Result as reader
use Rattle.format.specs.declared.Refusal.{Refusal}
use Rattle.format.specs.Walk.{Walk, ret, refuse}
use Rattle.format.specs.Header.{Gathered, messages, pass_over}
use Rattle.format.specs.Message.{Message, of_type}
use Rattle.tally.specs.Tally.{message_at, Tallied}
use Rattle.tally.specs.declared.Tally.{Tally}

-- a value, and the tally then lent
abbrev pub with_tally : Result (Unit {0}) Refusal → Tally → Result Tally Refusal
with_tally (Ok u) t = Ok t
with_tally (Err r) t = Err r

-- the walk of the messages from `from` to `end`, with what was found before them, is w, with any fuel that lasts
abbrev pub MessagesAre : {S : Type 0} → (Message → S → reader.Result S) → List ℕ → ℕ → ℕ → S → Walk (Gathered S) → Type 0
MessagesAre visit im from end found w = (fuel : ℕ) → end - from ≤ fuel → messages visit fuel from (part im from (end - from)) found ≡ w

-- the bytes from `from` to `end` of the image hold the messages ms, and no more
pub record Holds (im : List ℕ) (from end : ℕ) (ms : List Message) : Type 0 where
  pub ordered : from ≤ end
  pub inside : end ≤ length im
  pub fuel : ℕ
  pub read : messages pass_over fuel from (part im from (end - from)) tt ≡ ret (record { all = ms; found = tt })

-- the tally t' is t with these messages more
abbrev pub TalliedWith : List ℕ → List Message → Tally → Tally → Type 0
TalliedWith im ms t t' = (sofar : List Message) → Tallied im sofar t → Tallied im (sofar ++ ms) t'

-- the messages of the block, the tally with them and what was found with them, or the refusal
abbrev pub Scanned : {S : Type 0} → (Message → S → reader.Result S) → List ℕ → ℕ → ℕ → S → Tally → S → Result Tally Refusal → Type 0
Scanned visit im from end found t found' (Ok t') =
    (ms : List Message) × MessagesAre visit im from end found (ret (record { all = ms; found = found' })) × TalliedWith im ms t t'
Scanned visit im from end found t found' (Err r) = MessagesAre visit im from end found (refuse r)

-- the bytes hold messages
abbrev pub Readable : List ℕ → ℕ → ℕ → Type 0
Readable im from end = (ms : List Message) × Holds im from end ms

-- what stands at `at`, of the continuations among ms: none if it is the end, else the first, with the rest of the messages behind it
pub record Continues (im : List ℕ) (end at : ℕ) (ms : List Message) : Type 0 where
  pub rest : List Message
  pub first : of_type 0x0010 ms ≡ message_at im 0x0010 (at + 8) ∷ of_type 0x0010 rest
  pub holds : Holds im (at + 8 + u16 im (at + 2)) end rest
  pub long : 16 ≤ u16 im (at + 2)

abbrev pub NextIs : List ℕ → ℕ → ℕ → ℕ → Type 0
NextIs im from end at =
    (ms : List Message) → Holds im from end ms → ((at ≡ end) × (of_type 0x0010 ms ≡ [])) ⊎ ((at < end) × Continues im end at ms)
