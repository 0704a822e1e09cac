-- One continuation: it is entered as the last block of the list, and its messages are read.
use Prim.Native.Nat.{ℕ, ◌+◌, ◌-◌, ◌≤◌}
use mathlib.Core.List.{List}
use mathlib.Core.Path.{◌≡◌, refl}
use native.Mathlib.Omega.{arith}
use lib.ListN.{length}
use Rattle.format.specs.Bytes.{part}
use Rattle.format.specs.Blocks.{Block, block_of, entry_answer}
use Rattle.format.specs.declared.Refusal.{Refusal}
use Rattle.format.specs.Result as reader
use Rattle.format.specs.Walk.{Walk, ret, refuse, Kind, kind_number, shown, continuation_block, ◌>>=◌, run}
use Rattle.format.specs.Header.{Gathered, messages}
use Rattle.format.specs.Message.{Message}
use Rattle.walk.specs.Lent.{blocks_of, Lent, Walked, ended, stopped, entering, IsEntered}
use Rattle.std.specs.Prelude.{Result, Ok, Err}
use Rattle.walk.proofs.BlockList.{entered-zero, entry_answer-zero}
use Rattle.walk.proofs.Parts.{part_length}
use Rattle.laws.proofs.Simulation.{Simulation, start, same-walk, returned, refusal, entered-blocks, block-entered, block_refused}
use Rattle.sharing.specs.Visit.{Counts}
use Rattle.scan.specs.Scan.{MessagesAre, Scanned}
use Rattle.continuations.specs.Continuations.{with_blocks, block_walk, NewBlock, BlockRead}
use Rattle.continuations.specs.declared.Reading.{Reading}
use Rattle.tally.specs.declared.Tally.{Tally}
use Rattle.scan.proofs.ScanLaws.{messages-held}

-- a block that was entered lies inside the end of file
pub block_inside : (eof room : ℕ) (v : Kind) (a m n : ℕ) (ws : List ℕ) (c : ℕ) →
    Ok c ≡ entering (entry_answer eof room (blocks_of n ws) a m) (kind_number v) a m (blocks_of n ws) n → a + m ≤ eof
block_inside eof room v a m n ws c p =
    let answer = entry_answer eof room (blocks_of n ws) a m in
    (entry_answer-zero eof room (blocks_of n ws) a m (entered-zero (kind_number v) a m (blocks_of n ws) answer n c p).0).0

-- A block that was entered: what is found in it can be counted.
module _ (eof room : ℕ) (v : Kind) (a m n : ℕ) (ws ws₁ : List ℕ) (l : Lent ws n room)
    (q : IsEntered (entry_answer eof room (blocks_of n ws) a m) ws n (kind_number v) a m ws₁)
    (c : ℕ)
    (p : Ok c ≡ entering (entry_answer eof room (blocks_of n ws) a m) (kind_number v) a m (blocks_of n ws) n) where
  pub counting-entered : {V : Type 0} {Room : V → ℕ → Type 0} {Kept : V → ℕ → V → Type 0} {Counting : V → ℕ → List Block → ℕ → Type 0} →
      Counts Room Kept Counting → (x : V) (spare : ℕ) → Counting x eof (blocks_of n ws) spare → Counting x eof (blocks_of c ws₁) (spare + m)
  counting-entered k x spare h =
      let answer = entry_answer eof room (blocks_of n ws) a m in
      let allowed = (entry_answer-zero eof room (blocks_of n ws) a m (entered-zero (kind_number v) a m (blocks_of n ws) answer n c p).0) in
      rw (entered-blocks eof room v a m n ws ws₁ l q c p)
      (k.entered x eof (blocks_of n ws) (block_of (kind_number v) a m) spare (allowed.1, tt) (allowed.0, tt) h)

module _ {S : Type 0} (visit : Message → S → reader.Result S) (im : List ℕ) (eof room : ℕ) (ws : List ℕ) (n address size : ℕ) (found : S) (l : Lent ws n room)
    (ws₁ : List ℕ)
    (q : IsEntered (entry_answer eof room (blocks_of n ws) address size) ws n 3 address size ws₁) where
  at_entry : Simulation im eof room (block_walk visit address size found) n ws (block_walk visit address size found) n ws
  at_entry = start im eof room (block_walk visit address size found) n ws l

  pub not_entered : (x : Refusal) → Err x ≡ entering (entry_answer eof room (blocks_of n ws) address size) 3 address size (blocks_of n ws) n →
      Walked ws ws₁ (stopped x) (run im eof room (block_walk visit address size found) (blocks_of n ws))
  unfolding ◌>>=◌
  not_entered x e = block_refused size refl refl ws₁ at_entry q x e

  module _ (m : ℕ) (e : Ok m ≡ entering (entry_answer eof room (blocks_of n ws) address size) 3 address size (blocks_of n ws) n) (i : eof ≤ length im) where
    inside : address + size ≤ eof
    inside = block_inside eof room continuation_block address size n ws m e

    behind-entry : Simulation im eof room (block_walk visit address size found) n ws
        (messages visit (length (part im address size)) address (part im address size) found) m ws₁
    unfolding shown ◌>>=◌
    behind-entry = block-entered size refl refl ws₁ at_entry q m e

    block-is : (w : Walk (Gathered S)) → MessagesAre visit im address (address + size) found w →
        messages visit (length (part im address size)) address (part im address size) found ≡ w
    block-is w h =
        let d : address + size - address ≡ size = omega arith in
        let z : length (part im address size) ≡ size = part_length im address size (omega (arith, inside)) in
        rw z (rw d at (h size (omega arith)))

    pub not-scanned : (x : Refusal) → MessagesAre visit im address (address + size) found (refuse x) →
        Walked ws ws₁ (stopped x) (run im eof room (block_walk visit address size found) (blocks_of n ws))
    not-scanned x h = refusal (same-walk (refuse x) (block-is (refuse x) h) behind-entry)

    module _ (g : Gathered S) (h : MessagesAre visit im address (address + size) found (ret g)) where
      pub scanned : Walked ws ws₁ (ended g m) (run im eof room (block_walk visit address size found) (blocks_of n ws))
      scanned = returned (same-walk (ret g) (block-is (ret g) h) behind-entry)

      pub new-block : NewBlock im ws n address size ws₁ m g.all
      new-block =
          let z = entered-zero 3 address size (blocks_of n ws) (entry_answer eof room (blocks_of n ws) address size) n m e in
          record {
            holds = messages-held visit im address (address + size) found g (omega arith) (omega (arith, inside)) h;
            blocks = entered-blocks eof room continuation_block address size n ws ws₁ l q m e;
            counted = z.1;
          }

-- The block's messages were read, or refused: so was the continuation.
module _ {S : Type 0} (visit : Message → S → reader.Result S) (im ws : List ℕ) (q : Reading) (n address size : ℕ) (found : S) (t : Tally)
    (l : Lent ws n q.bounds.room) (i : q.bounds.end_of_file ≤ length im) (ws₁ : List ℕ)
    (e : IsEntered (entry_answer q.bounds.end_of_file q.bounds.room (blocks_of n ws) address size) ws n 3 address size ws₁) (n' : ℕ)
    (v : Ok n' ≡ entering (entry_answer q.bounds.end_of_file q.bounds.room (blocks_of n ws) address size) 3 address size (blocks_of n ws) n) where
  pub block-scanned : (found' : S) (r : Result Tally Refusal) → Scanned visit im address (address + size) found t found' r →
      BlockRead visit im ws q n address size found t ws₁ found' (with_blocks r n')
  block-scanned found' (Ok t') h = record {
    new = h.0;
    walked = scanned _ _ _ _ _ _ _ _ _ l _ e _ v i _ h.1;
    block = new-block _ _ _ _ _ _ _ _ _ l _ e _ v i _ h.1;
    tally = h.2;
  }
  block-scanned found' (Err x) h = not-scanned _ _ _ _ _ _ _ _ _ l _ e _ v i x h
