-- What reading the continuations of a header returns.
use Rattle.std.specs.Prelude.{ℕ, ◌+◌, ◌≤◌, ◌<◌, List, [], ◌∷◌, ◌++◌, ◌⊎◌, ◌≡◌, length, drop, Result, Ok, Err}
use Rattle.format.specs.Bytes.{u16}
use Rattle.format.specs.Blocks.{Block, block_of}
use Rattle.format.specs.Result as reader
use Rattle.format.specs.declared.Refusal.{Refusal}
use Rattle.format.specs.Walk.{Walk, kind_number, enter_block, continuation_block, run, ◌>>=◌}
use Rattle.format.specs.Message.{Message, of_type}
use Rattle.format.specs.Header.{Gathered, messages}
use Rattle.walk.specs.Lent.{blocks_of, ended, stopped, Walked}
use Rattle.tally.specs.Tally.{message_at, Tallied}
use Rattle.scan.specs.Scan.{Holds, TalliedWith}
use Rattle.tally.specs.declared.Tally.{Tally}
use Rattle.continuations.specs.declared.Reading.{Reading}
use Rattle.continuations.specs.declared.Cursor.{Cursor}

-- a tally, with the number of blocks then entered
abbrev pub with_blocks : Result Tally Refusal → ℕ → Result (Tally × ℕ) Refusal
with_blocks (Ok t) count = Ok (t, count)
with_blocks (Err r) count = Err r

-- the continuation messages that continuation blocks hold, one block after the other
abbrev pub Later : List ℕ → List Block → List Message → Type 0
Later im [] waiting = waiting ≡ []
Later im (b ∷ bs) waiting =
    (ms : List Message) × (rest : List Message) × Holds im b.at (b.at + b.size) ms × (waiting ≡ of_type 0x0010 ms ++ rest) × Later im bs rest

-- the blocks of the list from number i on
abbrev pub blocks_from : ℕ → ℕ → List ℕ → List Block
blocks_from count i ws = drop i (blocks_of count ws)

-- the continuation messages from the cursor on: those of its own block, and of the blocks behind it
pub record Waiting (im ws : List ℕ) (count : ℕ) (c : Cursor) (waiting : List Message) : Type 0 where
  pub here : List Message
  pub later : List Message
  pub block : c.block < count
  pub holds : Holds im c.at c.end here
  pub behind : Later im (blocks_from count (c.block + 1) ws) later
  pub is : waiting ≡ of_type 0x0010 here ++ later

abbrev pub Ready : List ℕ → List ℕ → ℕ → Cursor → Type 0
Ready im ws count c = (waiting : List Message) × Waiting im ws count c waiting

-- the cursor stands at the first of those that wait
pub record Next (im ws : List ℕ) (count : ℕ) (c : Cursor) (waiting : List Message) : Type 0 where
  pub rest : List Message
  pub first : waiting ≡ message_at im 0x0010 (c.at + 8) ∷ rest
  pub next : Waiting im ws count (record { block = c.block; at = c.at + 8 + u16 im (c.at + 2); end = c.end }) rest
  pub long : 16 ≤ u16 im (c.at + 2)

-- none waits, or the cursor stands at the first
abbrev pub Sought : List ℕ → List ℕ → ℕ → Cursor → List Message → Type 0
Sought im ws count c waiting = ((c.at ≡ c.end) × (waiting ≡ [])) ⊎ ((c.at < c.end) × Next im ws count c waiting)

-- the walk of one continuation: it is entered, and its messages are read
abbrev pub block_walk : {S : Type 0} → (Message → S → reader.Result S) → ℕ → ℕ → S → Walk (Gathered S)
block_walk visit a n found = enter_block continuation_block a n >>= λ b. messages visit (length b) a b found

-- a block was entered, as the last of the list, and these are its messages
pub record NewBlock (im ws : List ℕ) (count address size : ℕ) (ws' : List ℕ) (n : ℕ) (new : List Message) : Type 0 where
  pub holds : Holds im address (address + size) new
  pub blocks : blocks_of n ws' ≡ blocks_of count ws ++ (block_of (kind_number continuation_block) address size ∷ [])
  pub counted : n ≡ count + 1

-- a walk of messages was run: all messages with their tally and what was found with them, or the refusal
abbrev pub GatheredIs : {S : Type 0} → List ℕ → Reading → List ℕ → ℕ → Walk (Gathered S) → List ℕ → S → Result (Tally × ℕ) Refusal → Type 0
GatheredIs im q ws count w ws' found' (Ok g) =
    (all : List Message)
    × Walked ws ws' (ended (record { all = all; found = found' }) g.1) (run im q.bounds.end_of_file q.bounds.room w (blocks_of count ws))
    × Tallied im all g.0
GatheredIs im q ws count w ws' found' (Err r) = Walked ws ws' (stopped r) (run im q.bounds.end_of_file q.bounds.room w (blocks_of count ws))

-- a continuation was read
pub record BlockDone {S : Type 0} (visit : Message → S → reader.Result S) (im ws : List ℕ) (q : Reading) (count address size : ℕ) (found : S) (t : Tally)
    (ws' : List ℕ) (found' : S) (t' : Tally) (n : ℕ) : Type 0 where
  pub new : List Message
  pub walked : Walked ws ws' (ended (record { all = new; found = found' }) n)
      (run im q.bounds.end_of_file q.bounds.room (block_walk visit address size found) (blocks_of count ws))
  pub block : NewBlock im ws count address size ws' n new
  pub tally : TalliedWith im new t t'

-- a continuation was read, or refused
abbrev pub BlockRead : {S : Type 0} → (Message → S → reader.Result S) → List ℕ → List ℕ → Reading → (count address size : ℕ) → S → Tally → List ℕ → S →
    Result (Tally × ℕ) Refusal → Type 0
BlockRead visit im ws q count address size found t ws' found' (Ok g) = BlockDone visit im ws q count address size found t ws' found' g.0 g.1
BlockRead visit im ws q count address size found t ws' found' (Err r) =
    Walked ws ws' (stopped r) (run im q.bounds.end_of_file q.bounds.room (block_walk visit address size found) (blocks_of count ws))
