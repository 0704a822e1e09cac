-- The block met: 6 comes from an entry alone, where the refusal gives the first block of the list that shares a byte.
use Prim.Native.Nat.{ℕ, ◌+◌, ◌≤◌}
use mathlib.Core.Bool.{Bool, true, false, ◌||◌}
use mathlib.Core.List.{List, [], ◌∷◌, ◌++◌}
use mathlib.Core.Path.{◌≡◌, refl, ap, ◌∙◌}
use native.Mathlib.Omega.{arith}
use borrow.Author.Tests.{leb-true, eqb-true, eqb-false}
use lib.Dec.{leb, ltb, eqb}
use lib.ListN.{length}
use Rattle.std.specs.Prelude.{if◌then◌else◌}
use Rattle.format.specs.Bytes.{part}
use Rattle.format.specs.Blocks.{Block, overlaps, overlaps_any, first_met, entry_answer}
use Rattle.format.specs.declared.Refusal.{Refusal}
use Rattle.format.specs.declared.Refusal.TheVariants.{NotEntered}
use Rattle.format.specs.Walk.{Kind, kind_number, Length, shown, length_in, known_length, not_entered, Walk, refused, run}
use Rattle.laws.proofs.Plan.{known-inside}
use Rattle.links.specs.Fault.{Fault, here, at_entry, later}
use Rattle.links.specs.FirstMet.{GivesMet}
use Rattle.links.proofs.Numbered.{Numbered}
use Rattle.links.proofs.RefusedFault.{refused-fault}

-- a walk's own refusals have numbers other than 6
abbrev pub NotSix : ℕ → Type 0
NotSix n = n ≡ 6 → ⊥

-- the first of the blocks that shares a byte
pub record First (bs : List Block) (a n : ℕ) : Type 0 where
  pub before : List Block
  pub block : Block
  pub after : List Block
  pub all : bs ≡ before ++ (block ∷ after)
  pub met : first_met bs a n ≡ block.at
  pub meets : overlaps block a n ≡ true
  pub first : overlaps_any before a n ≡ false

first_of : (bs : List Block) (a n : ℕ) → overlaps_any bs a n ≡ true → First bs a n
unfolding overlaps_any first_met
first_of [] a n e = let z : ◌≡◌ {A = ℕ} 0 1 = cc in absurd (omega arith)
first_of (b ∷ bs) a n e = go (overlaps b a n) refl e (first_of bs a n)
  where
    go : (t : Bool) → overlaps b a n ≡ t → (t || overlaps_any bs a n) ≡ true → (overlaps_any bs a n ≡ true → First bs a n) → First (b ∷ bs) a n
    go true q h rest = record { before = []; block = b; after = bs; all = refl; met = rw q; meets = q; first = refl }
    go false q h rest =
        let f = rest h in
        record {
          before = b ∷ f.before;
          block = f.block;
          after = f.after;
          all = ap (λ (xs : List Block). b ∷ xs) f.all;
          met = rw q f.met;
          meets = f.meets;
          first = rw q f.first;
        }

-- 6 is the answer of a block that is inside and shares a byte
entry-six : (eof room : ℕ) (bs : List Block) (a n : ℕ) → entry_answer eof room bs a n ≡ 6 → (a + n ≤ eof) × (overlaps_any bs a n ≡ true)
unfolding entry_answer
entry-six eof room bs a n = go (leb (a + n) eof) (overlaps_any bs a n) (ltb (length bs) room) refl refl
  where
    go : (t u v : Bool) → leb (a + n) eof ≡ t → overlaps_any bs a n ≡ u → ◌≡◌ {A = ℕ} (if t then if u then 6 else if v then 0 else 13 else 5) 6 →
        (a + n ≤ eof) × (overlaps_any bs a n ≡ true)
    go true true v p q e = (leb-true _ _ p, q)
    go true false true p q e = absurd (omega arith)
    go true false false p q e = absurd (omega arith)
    go false u v p q e = absurd (omega arith)

-- the refusal with 6, written with what is known of it
refusal-six : (n kind a known size b : ℕ) (bs : List Block) → n ≡ 6 → known ≡ size → first_met bs a size ≡ b →
    NotEntered n kind a known (first_met bs a known) ≡ NotEntered 6 kind a size b
refusal-six n kind a known size b bs e f g = rw (e, f, g)

module _ (im : List ℕ) (eof room : ℕ) where
  -- a block that can't be entered
  entry-met : (v : Kind) (a : ℕ) (l : Length) (n : ℕ) (bs : List Block) → entry_answer eof room bs a (length_in im v a l) ≡ n →
      GivesMet (not_entered n (kind_number v) a (known_length im eof v a l) bs) bs
  entry-met v a l n bs e = go (eqb n 6) refl
    where
      size : ℕ
      size = length_in im v a l

      go : (t : Bool) → eqb n 6 ≡ t → GivesMet (NotEntered n (kind_number v) a (known_length im eof v a l)
          (if t then first_met bs a (known_length im eof v a l) else 0)) bs
      go true q =
          let six : n ≡ 6 = eqb-true n 6 q in
          let s = entry-six eof room bs a size (e ∙ six) in
          let known : known_length im eof v a l ≡ size = known-inside im eof v a l s.0 in
          let f = first_of bs a size s.1 in
          record {
            six = λ _. record {
              kind = kind_number v;
              at = a;
              size = size;
              before = f.before;
              block = f.block;
              after = f.after;
              all = f.all;
              refusal = refusal-six n (kind_number v) a (known_length im eof v a l) size f.block.at bs six known f.met;
              meets = f.meets;
              first = f.first;
            };
            other = λ h. absurd (h six);
          }
      go false q = record { six = λ six. absurd (eqb-false n 6 q six); other = λ _. refl }

  pub fault-met : {A : Type 0} {w : Walk A} {bs : List Block} {r : Refusal} {ms : List Block} → Numbered NotSix w → Fault im eof room w bs r ms → GivesMet r ms
  unfolding Numbered
  fault-met h here = record { six = λ six. absurd (h.0 six); other = λ _. h.1 }
  fault-met h (at_entry {v = v} {a = a} {l = l} {n = n} {bs = bs} g z) = entry-met v a l n bs g
  fault-met h (later {v = v} {a = a} {l = l} g f) = fault-met (h (shown v (part im a (length_in im v a l)))) f

  -- a run of such a walk that is refused
  pub first-met : {A : Type 0} (w : Walk A) (bs : List Block) (r : Refusal) (ms : List Block) → Numbered NotSix w →
      run im eof room w bs ≡ refused r ms → GivesMet r ms
  first-met w bs r ms h e = fault-met h (refused-fault im eof room w bs r ms e)
