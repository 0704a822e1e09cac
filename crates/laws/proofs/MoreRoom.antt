-- A run with less room, where it doesn't end for want of room, is the run with more.
use Prim.Native.Nat.{ℕ, ◌+◌, ◌≤◌}
use mathlib.Core.Bool.{Bool, true, false}
use mathlib.Core.List.{List, [], ◌∷◌, ◌++◌}
use mathlib.Core.Path.{◌≡◌, refl, ◌∙◌}
use native.Mathlib.Omega.{arith}
use borrow.Author.Tests.{lt-ltb, ltb-true}
use lib.ListN.{length}
use lib.Dec.{leb, ltb}
use Rattle.format.specs.Bytes.{part}
use Rattle.format.specs.Blocks.{Block, block_of, overlaps_any, entry_answer}
use Rattle.format.specs.declared.Refusal.{Refusal}
use Rattle.format.specs.Walk.{kind_number, shown, length_in, known_length, not_entered, answer_of, Walk, ret, refuse, enter, Outcome, done, refused}
use Rattle.format.specs.Walk.{if_entered, run, and_then}

-- the run didn't end for want of room
abbrev pub HadRoom : {A : Type 0} → Outcome A → Type 0
HadRoom (done a bs) = Unit {0}
HadRoom (refused r bs) = answer_of r ≡ 13 → ⊥

-- nor did the first of two
pub had-room-first : {A B : Type 0} (o : Outcome A) (f : A → List Block → Outcome B) → HadRoom (and_then o f) → HadRoom o
had-room-first (done a bs) f h = tt
had-room-first (refused r bs) f h = h

module _ (im : List ℕ) (eof room room' : ℕ) (l : room ≤ room') {A : Type 0} where
  entered-more : (a n : ℕ) (bs : List Block) (f : ℕ → Refusal) (o o' : Outcome A) → answer_of (f 13) ≡ 13 → (HadRoom o → o' ≡ o) →
      HadRoom (if_entered (entry_answer eof room bs a n) o (λ m. refused (f m) bs)) →
      if_entered (entry_answer eof room' bs a n) o' (λ m. refused (f m) bs) ≡ if_entered (entry_answer eof room bs a n) o (λ m. refused (f m) bs)
  unfolding entry_answer
  entered-more a n bs f o o' full next h = step (leb (a + n) eof) (overlaps_any bs a n) (ltb (length bs) room) refl refl refl h
    where
      step : (t u r : Bool) → leb (a + n) eof ≡ t → overlaps_any bs a n ≡ u → ltb (length bs) room ≡ r →
          HadRoom (if_entered (entry_answer eof room bs a n) o (λ m. refused (f m) bs)) →
          if_entered (entry_answer eof room' bs a n) o' (λ m. refused (f m) bs) ≡ if_entered (entry_answer eof room bs a n) o (λ m. refused (f m) bs)
      step false u r e g k h = rw e
      step true true r e g k h = rw (e, g)
      step true false true e g k h =
          let m : ltb (length bs) room' ≡ true = lt-ltb (length bs) room' (omega (arith, ltb-true (length bs) room k)) in
          rw (e, g, k, m) (next (rw (e, g, k) at h))
      step true false false e g k h = absurd ((rw (e, g, k) at h) full)

  pub more_room : (w : Walk A) (bs : List Block) → HadRoom (run im eof room w bs) → run im eof room' w bs ≡ run im eof room w bs
  unfolding run
  more_room (ret a) bs h = refl
  more_room (refuse r) bs h = refl
  more_room (enter v a len k) bs h =
      let n = length_in im v a len in
      entered-more a n bs (λ m. not_entered m (kind_number v) a (known_length im eof v a len) bs) _ _ refl
      (more_room (k (shown v (part im a n))) (bs ++ (block_of (kind_number v) a n ∷ []))) h

  -- a run that is done is the same with more room
  pub done_more : (w : Walk A) (bs : List Block) (x : A) (ms : List Block) → run im eof room w bs ≡ done x ms → run im eof room' w bs ≡ done x ms
  done_more w bs x ms e = more_room w bs (rw e tt) ∙ e
