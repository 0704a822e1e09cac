-- Where the run of such a walk is refused: the blocks that it has entered hold the place of the fault, or the next one can't be entered.
use Prim.Native.Nat.{ℕ, ◌+◌, ◌≤◌, ◌<◌}
use mathlib.Core.Bool.{Bool, true, false}
use mathlib.Core.List.{List, [], ◌∷◌, ◌++◌, append_assoc, append-nil}
use mathlib.Core.Path.{◌≡◌, ap, sym, ◌∙◌}
use native.Mathlib.Omega.{arith}
use lib.ListN.{length}
use Rattle.std.specs.Prelude.{if◌then◌else◌}
use Rattle.format.specs.Bytes.{part}
use Rattle.format.specs.Limits.{blocks_most}
use Rattle.format.specs.Blocks.{Block, block_of}
use Rattle.format.specs.declared.Refusal.{Refusal}
use Rattle.format.specs.declared.Refusal.TheVariants as refusals
use Rattle.format.specs.Walk.{Kind, kind_number, Length, fixed, stored, is_header, blank_count, shown, length_in, Walk}
use Rattle.walk.proofs.BlockList.{entry_answer-zero}
use Rattle.walk.proofs.Parts.{part_length}
use Rattle.laws.proofs.Blank.{blank-length}
use Rattle.links.specs.Fault.{Fault, here, at_entry, later}
use Rattle.links.specs.Owners.{AllKinds}
use Rattle.links.specs.Placed.{HeldBy, NotEnterable}
use Rattle.links.proofs.RefusedEntry.{not-enterable}
use Rattle.links.proofs.KindsEntered.{Enters}
use Rattle.links.proofs.Placed.{Met, OfLength, Placed}

-- a block inside the image is shown whole
pub shown-whole : (im : List ℕ) (v : Kind) (a n : ℕ) → a + n ≤ length im → length (shown v (part im a n)) ≡ n
unfolding shown
shown-whole im v a n l = go (is_header v)
  where
    go : (t : Bool) → length (if t then blank_count (part im a n) else part im a n) ≡ n
    go true = blank-length (part im a n) ∙ part_length im a n l
    go false = part_length im a n l

-- its length is one that the walk asks for
pub length-fits : (im : List ℕ) (v : Kind) (a : ℕ) (l : Length) (m : ℕ) → m ≡ length_in im v a l → OfLength l m
length-fits im v a (fixed n) m e = e
length-fits im v a (stored p rest) m e = omega (arith, e)

-- what is known of a refusal behind these blocks
abbrev pub Stopped : ℕ → ℕ → List Block → Refusal → Type 0
Stopped eof room bs (refusals.Fault n at) = HeldBy bs at × (n ≡ 13 → blocks_most < length bs)
Stopped eof room bs (refusals.NotEntered n kind a size met) = NotEnterable eof room bs n a size

-- of a walk that has entered the blocks cs, the last of ms: its fault is met in them, or the next block, of a kind of which K holds, can't be entered
abbrev pub StoppedBy : (ℕ → Type 0) → ℕ → ℕ → List Block → List Block → Refusal → Type 0
StoppedBy K eof room ms cs (refusals.Fault n at) = Met cs (refusals.Fault n at)
StoppedBy K eof room ms cs (refusals.NotEntered n kind a size met) = NotEnterable eof room ms n a size × K kind

met-stopped : (K : ℕ → Type 0) (eof room : ℕ) (ms cs : List Block) (r : Refusal) → Met cs r → StoppedBy K eof room ms cs r
met-stopped K eof room ms cs (refusals.Fault n at) h = h
met-stopped K eof room ms cs (refusals.NotEntered n kind a size met) h = absurd h

-- where no more blocks are entered than there is ever room for
pub stopped-held : (K : ℕ → Type 0) (eof room : ℕ) (ms : List Block) (r : Refusal) → length ms ≤ blocks_most → StoppedBy K eof room ms ms r →
    Stopped eof room ms r
stopped-held K eof room ms (refusals.Fault n at) l h = (h.0 (λ e. omega (arith, h.1 e, l)), h.1)
stopped-held K eof room ms (refusals.NotEntered n kind a size met) l h = h.0

-- a walk that is refused with the blocks ms: behind the blocks of others, it has entered bs and then new ones
pub record StoppedWalk (K : ℕ → Type 0) (eof room : ℕ) (others bs : List Block) (r : Refusal) (ms : List Block) : Type 0 where
  pub new : List Block
  pub all : ms ≡ others ++ (bs ++ new)
  pub kinds : AllKinds K new
  pub stopped : StoppedBy K eof room ms (bs ++ new) r

module _ (im : List ℕ) (eof room : ℕ) (inside : eof ≤ length im) {A : Type 0} (P : List Block → A → Type 0) (K : ℕ → Type 0) (others : List Block) where
  pub fault-placed : {w : Walk A} {cs : List Block} {r : Refusal} {ms : List Block} (bs : List Block) → Fault im eof room w cs r ms → cs ≡ others ++ bs →
      Enters K w → Placed P bs w → StoppedWalk K eof room others bs r ms
  unfolding Placed Enters
  fault-placed bs (here {r = r} {bs = cs}) e k p = record {
    new = [];
    all = e ∙ ap (λ (xs : List Block). others ++ xs) (sym (append-nil bs));
    kinds = tt;
    stopped = rw (append-nil bs) (met-stopped K eof room cs bs r p);
  }
  fault-placed bs (at_entry {v = v} {a = a} {l = l} {n = n} {bs = cs} g h) e k p = record {
    new = [];
    all = e ∙ ap (λ (xs : List Block). others ++ xs) (sym (append-nil bs));
    kinds = tt;
    stopped = (not-enterable im eof room v a l n cs g h, k.0);
  }
  fault-placed bs (later {v = v} {a = a} {l = l} {bs = cs} {ms = ms} g f) e k p =
      let n = length_in im v a l in
      let one = block_of (kind_number v) a n ∷ [] in
      let whole : length (shown v (part im a n)) ≡ n = shown-whole im v a n (omega (arith, inside, (entry_answer-zero eof room cs a n g).0)) in
      let more = fault-placed (bs ++ one) f (ap (λ (xs : List Block). xs ++ one) e ∙ append_assoc others bs one) (k.1 (shown v (part im a n)))
      (rw whole at (p (shown v (part im a n)) (length-fits im v a l _ whole))) in
      let order : (bs ++ one) ++ more.new ≡ bs ++ (one ++ more.new) = append_assoc bs one more.new in
      record {
        new = one ++ more.new;
        all = more.all ∙ ap (λ (xs : List Block). others ++ xs) order;
        kinds = (k.0, more.kinds);
        stopped = rw order at more.stopped;
      }
