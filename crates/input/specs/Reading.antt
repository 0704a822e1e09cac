-- Reading an input to its end: "A program reads at most 65,536; longer input gives 1."
use Rattle.std.specs.Prelude.{ℕ, ◌+◌, ◌≤◌, ◌<◌, List, ◌≡◌, length, take, Result, Ok, Err}
use Rattle.input.specs.declared.Input.{Input}

-- what a read brings fits behind the first bytes of a buffer so long
abbrev pub Within : {E : Type 0} → ℕ → ℕ → Result ℕ E → Type 0
Within at long (Ok k) = at + k ≤ long
Within at long (Err e) = Unit {0}

-- a read behind the first bytes of a buffer: these stay, and so does its length
pub record Behind (at : ℕ) (before after : List ℕ) : Type 0 where
  pub kept : take at after ≡ take at before
  pub same_length : length after ≡ length before

-- Reads b at b' i: with the first bytes of the buffer b read, reads one behind the other leave the buffer b' and end in i. No read is left out
-- before one fails, one brings nothing, or the buffer is full.
pub data Reads {E : Type 0} : List ℕ → ℕ → List ℕ → Result Input E → Type 0 where
  -- the last read fails
  fails : {b b' : List ℕ} {at : ℕ} {e : E} → at < length b → Behind at b b' → Reads b at b' (Err e)
  -- the last read brings nothing
  ends : {b b' : List ℕ} {at : ℕ} → at < length b → Behind at b b' → Reads b at b' (Ok (record { length = at; last = 0 }))
  -- the last read fills the buffer
  fills : {b b' : List ℕ} {at k : ℕ} → 0 < k → at + k ≡ length b → Behind at b b' → Reads b at b' (Ok (record { length = at + k; last = k }))
  -- a read brings k bytes, and others follow
  more : {b b' b'' : List ℕ} {at k : ℕ} {i : Result Input E} → 0 < k → at + k < length b → Behind at b b' → Reads b' (at + k) b'' i → Reads b at b'' i
