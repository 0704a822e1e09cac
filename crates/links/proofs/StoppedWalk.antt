-- The walk of an object that is refused: its header can't be entered, or it has entered its header and blocks of inner kinds.
use Prim.Native.Nat.{ℕ, ◌≤◌}
use mathlib.Core.List.{List, [], ◌∷◌, ◌++◌, append-nil}
use mathlib.Core.Logic.{◌⊎◌, inl, inr, ⊎_elim}
use mathlib.Core.Path.{◌≡◌, refl, sym, ◌∙◌}
use native.Mathlib.Omega.{arith}
use lib.ListN.{length}
use Rattle.format.specs.Bytes.{part}
use Rattle.format.specs.Blocks.{Block, block_of, header_kind, entry_answer}
use Rattle.format.specs.declared.Refusal.{Refusal}
use Rattle.format.specs.declared.Refusal.TheVariants as refusals
use Rattle.format.specs.Walk.{header_block, shown, length_in, known_length, not_entered, Walk, refused, run}
use Rattle.format.specs.Superblock.{Superblock}
use Rattle.format.specs.Sharing.{Found}
use Rattle.format.specs.Object.{object_walk}
use Rattle.walk.proofs.BlockList.{entry_answer-zero}
use Rattle.links.proofs.OneHeader.{Inner, header_length, OneHeader, ObjectBlocks, object-header}
use Rattle.links.proofs.RefusedFault.{entered-refused, refused-fault}
use Rattle.links.proofs.Placed.{Placed, Whatever}
use Rattle.links.proofs.PlacedRun.{shown-whole, length-fits, StoppedBy, fault-placed}
use Rattle.links.proofs.PlacedAudit.{object-placed}

-- the refusal is of a header that can't be entered
abbrev pub HeaderRefused : Refusal → Type 0
HeaderRefused (refusals.Fault n at) = ⊥
HeaderRefused (refusals.NotEntered n kind a size met) = kind ≡ header_kind

-- behind the blocks before, the walk of the object at this address is refused with ms
pub record ObjectStopped (eof room at : ℕ) (before : List Block) (r : Refusal) (ms : List Block) : Type 0 where
  pub own : List Block
  pub all : ms ≡ before ++ own
  pub how : ((own ≡ []) × HeaderRefused r) ⊎ (ObjectBlocks at own × StoppedBy Inner eof room ms own r)

module _ (im : List ℕ) (eof room : ℕ) (inside : eof ≤ length im) where
  header-stopped : {A : Type 0} (at : ℕ) (w : Walk A) (before : List Block) (r : Refusal) (ms : List Block) → OneHeader Inner at w → Placed Whatever [] w →
      run im eof room w before ≡ refused r ms → ObjectStopped eof room at before r ms
  unfolding run Placed
  header-stopped {A} at w before r ms h p e =
      let q = rw h.walk at p in
      ⊎_elim
      (λ c.
      let same : not_entered (entry_answer eof room before at n) header_kind at (known_length im eof header_block at header_length) before ≡ r = c.0 in
      let stay : before ≡ ms = c.2 in
      let of : HeaderRefused r = rw (← same) refl in
      record { own = []; all = sym stay ∙ sym (append-nil before); how = inl (refl, of) })
      (λ c.
      let whole : length b ≡ n = shown-whole im header_block at n (omega (arith, inside, (entry_answer-zero eof room before at n c.0).0)) in
      let fault = refused-fault im eof room (h.behind b) (before ++ one) r ms c.1 in
      let f = fault-placed im eof room inside Whatever Inner before one fault refl (h.inner b)
      (rw whole at (q b (length-fits im header_block at header_length _ whole))) in
      record {
        own = one ++ f.new;
        all = f.all;
        how = inr (record { size = n; others = f.new; header = refl; inner = f.kinds }, f.stopped);
      })
      (entered-refused (entry_answer eof room before at n) (λ m. not_entered m header_kind at (known_length im eof header_block at header_length) before)
      (run im eof room (h.behind b) (before ++ one)) before r ms (rw h.walk at e))
    where
      n : ℕ
      n = length_in im header_block at header_length

      b : List ℕ
      b = shown header_block (part im at n)

      one : List Block
      one = block_of header_kind at n ∷ []

  pub object-stopped : (s : Superblock) (i at : ℕ) (f : Found) (before : List Block) (r : Refusal) (ms : List Block) →
      run im eof room (object_walk s i at f) before ≡ refused r ms → ObjectStopped eof room at before r ms
  object-stopped s i at f before r ms e =
      header-stopped at (object_walk s i at f) before r ms (object-header s i at f) (object-placed [] s i at f) e
