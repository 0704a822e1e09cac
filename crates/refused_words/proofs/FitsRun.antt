-- Where the run of such a walk on bytes is refused at a block: its address, its length and its kind.
use Prim.Native.Nat.{ℕ, ◌+◌, ◌≤◌}
use mathlib.Core.Bool.{Bool, true, false}
use mathlib.Core.List.{List}
use native.Mathlib.Omega.{arith}
use lib.Dec.{leb}
use Rattle.std.specs.Prelude.{if◌then◌else◌}
use Rattle.format.specs.Bytes.{part}
use Rattle.format.specs.Blocks.{Block}
use Rattle.format.specs.declared.Refusal.{Refusal}
use Rattle.format.specs.declared.Refusal.TheVariants as refusals
use Rattle.format.specs.Walk.{Kind, superblock_block, header_block, continuation_block, heap_block, segment_block, tree_block, symbol_block, data_block}
use Rattle.format.specs.Walk.{kind_number, Length, fixed, stored, shown, length_in, known_length, Walk}
use Rattle.links.specs.Fault.{Fault, here, at_entry, later}
use Rattle.demand.specs.Bytes.{IsBytes}
use Rattle.refused_words.specs.Words.{IsWord}
use Rattle.refused_words.proofs.ReadWords.{shown-bytes}
use Rattle.refused_words.proofs.Fits.{NoBlock, LengthFits, Fits}

-- what is known of a refusal
abbrev pub Readable : Refusal → Type 0
Readable (refusals.Fault n at) = Unit {0}
Readable (refusals.NotEntered n kind a size met) = IsWord a × IsWord size × (kind ≤ 8)

no-block-readable : (r : Refusal) → NoBlock r → Readable r
no-block-readable (refusals.Fault n at) h = tt
no-block-readable (refusals.NotEntered n kind a size met) h = absurd h

kind-most : (v : Kind) → kind_number v ≤ 8
kind-most superblock_block = omega arith
kind-most header_block = omega arith
kind-most continuation_block = omega arith
kind-most heap_block = omega arith
kind-most segment_block = omega arith
kind-most tree_block = omega arith
kind-most symbol_block = omega arith
kind-most data_block = omega arith

known-word : (im : List ℕ) (eof : ℕ) (v : Kind) (a : ℕ) (l : Length) → IsBytes im → LengthFits l → IsWord (known_length im eof v a l)
known-word im eof v a (fixed n) h f = f
known-word im eof v a (stored p rest) h f = go (leb (a + p) eof) (f.1 (shown v (part im a p)) (shown-bytes im v a p h))
  where
    go : (t : Bool) → IsWord (p + rest (shown v (part im a p))) → IsWord (if t then p + rest (shown v (part im a p)) else p)
    go true whole = whole
    go false whole = f.0

module _ (im : List ℕ) (eof room : ℕ) (h : IsBytes im) {A : Type 0} (P : A → Type 0) where
  pub fault-fits : {w : Walk A} {bs : List Block} {r : Refusal} {ms : List Block} → Fault im eof room w bs r ms → Fits P w → Readable r
  unfolding Fits
  fault-fits (here {r = r}) f = no-block-readable r f
  fault-fits (at_entry {v = v} {a = a} {l = l} g z) f = (f.0, known-word im eof v a l h f.1, kind-most v)
  fault-fits (later {v = v} {a = a} {l = l} g rest) f =
      let n = length_in im v a l in
      fault-fits rest (f.2 (shown v (part im a n)) (shown-bytes im v a n h))
