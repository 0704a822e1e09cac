-- Why a run is refused: the one place where the walk stops.
use Rattle.std.specs.Prelude.{ℕ, List, [], ◌∷◌, ◌++◌, ◌⊎◌, ◌≡◌}
use Rattle.format.specs.Bytes.{part}
use Rattle.format.specs.Blocks.{Block, block_of, entry_answer, room_of}
use Rattle.format.specs.declared.Refusal.{Refusal}
use Rattle.format.specs.Walk.{Kind, kind_number, Length, shown, length_in, known_length, fault, not_entered, Walk, refuse, enter}
use Rattle.format.specs.Superblock.{Superblock, opened, not_opened, open_image}
use Rattle.format.specs.Audit.{audit_walk}

-- Fault w bs r ms: the walk w, with the blocks bs entered, comes to a stop with the refusal r, having entered ms.
pub data Fault (im : List ℕ) (eof room : ℕ) {A : Type 0} : Walk A → List Block → Refusal → List Block → Type 0 where
  -- the walk refuses here
  here : {r : Refusal} {bs : List Block} → Fault im eof room (refuse r) bs r bs
  -- the next block can't be entered
  at_entry : {v : Kind} {a : ℕ} {l : Length} {k : List ℕ → Walk A} {n : ℕ} {bs : List Block} →
      entry_answer eof room bs a (length_in im v a l) ≡ n → (n ≡ 0 → ⊥) →
      Fault im eof room (enter v a l k) bs (not_entered n (kind_number v) a (known_length im eof v a l) bs) bs
  -- the next block is entered, and the fault comes later
  later : {v : Kind} {a : ℕ} {l : Length} {k : List ℕ → Walk A} {r : Refusal} {bs ms : List Block} → entry_answer eof room bs a (length_in im v a l) ≡ 0 →
      Fault im eof room (k (shown v (part im a (length_in im v a l)))) (bs ++ (block_of (kind_number v) a (length_in im v a l) ∷ [])) r ms →
      Fault im eof room (enter v a l k) bs r ms

-- why an audit is refused: the image can't be opened, or its walk comes to a fault
abbrev pub AuditFault : List ℕ → ℕ → Refusal → List Block → Type 0
AuditFault im lent r bs =
    ((n : ℕ) × (open_image im ≡ not_opened n) × (r ≡ fault n 0) × (bs ≡ [])) ⊎
    ((s : Superblock) × (open_image im ≡ opened s) × Fault im s.end_of_file (room_of lent) (audit_walk s) [] r bs)
