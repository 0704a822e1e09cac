-- Laws of a run that is done or refused: what came before its end was done.
use Prim.Native.Nat.{ℕ, ◌+◌, ◌≤◌, zero, suc}
use mathlib.Core.List.{List}
use mathlib.Core.Logic.{◌⊎◌, inl, inr}
use mathlib.Core.Path.{◌≡◌, refl, sym, ◌∙◌}
use native.Mathlib.Omega.{arith}
use lib.ListN.{length}
use Rattle.format.specs.Blocks.{Block, entry_answer}
use Rattle.format.specs.declared.Refusal.{Refusal}
use Rattle.format.specs.Walk.{Kind, Length, length_in, Walk, enter, ◌>>=◌, Outcome, done, refused, if_entered, run, and_then}
use Rattle.laws.proofs.Bind.{run_bind}
use Rattle.laws.proofs.Growth.{run-grown}
use Rattle.walk.proofs.BlockList.{entry_answer-zero}

pub then-done : {A B : Type 0} (o : Outcome A) (f : A → List Block → Outcome B) (b : B) (ms : List Block) → and_then o f ≡ done b ms →
    (a : A) × (cs : List Block) × (o ≡ done a cs) × (f a cs ≡ done b ms)
then-done (done a cs) f b ms e = (a, cs, refl, e)
then-done (refused n cs) f b ms e = let z : ◌≡◌ {A = ℕ} 0 1 = cc in absurd (omega arith)

pub then-refused : {A B : Type 0} (o : Outcome A) (f : A → List Block → Outcome B) (r : Refusal) (ms : List Block) → and_then o f ≡ refused r ms →
    (o ≡ refused r ms) ⊎ ((a : A) × (cs : List Block) × (o ≡ done a cs) × (f a cs ≡ refused r ms))
then-refused (done a cs) f r ms e = inr (a, cs, refl, e)
then-refused (refused q cs) f r ms e =
    let same : q ≡ r = cc in
    let stay : cs ≡ ms = cc in
    inl (rw (same, stay))

pub entered-done : {A : Type 0} (n : ℕ) (f : ℕ → Refusal) (o : Outcome A) (bs : List Block) (a : A) (ms : List Block) →
    if_entered n o (λ m. refused (f m) bs) ≡ done a ms → (n ≡ 0) × (o ≡ done a ms)
entered-done zero f o bs a ms e = (refl, e)
entered-done (suc n) f o bs a ms e = let z : ◌≡◌ {A = ℕ} 0 1 = cc in absurd (omega arith)

module _ (im : List ℕ) (eof room : ℕ) where
  -- one walk after another is done: each is
  pub bind_done : {A B : Type 0} (w : Walk A) (f : A → Walk B) (bs : List Block) (b : B) (ms : List Block) → run im eof room (w >>= f) bs ≡ done b ms →
      (a : A) × (cs : List Block) × (run im eof room w bs ≡ done a cs) × (run im eof room (f a) cs ≡ done b ms)
  bind_done w f bs b ms e = then-done (run im eof room w bs) (λ a cs. run im eof room (f a) cs) b ms (sym (run_bind im eof room w f bs) ∙ e)

  -- one walk after another is refused: the first is, or it is done and the second is refused
  pub bind-refused : {A B : Type 0} (w : Walk A) (f : A → Walk B) (bs : List Block) (r : Refusal) (ms : List Block) →
      run im eof room (w >>= f) bs ≡ refused r ms →
      (run im eof room w bs ≡ refused r ms) ⊎
      ((a : A) × (cs : List Block) × (run im eof room w bs ≡ done a cs) × (run im eof room (f a) cs ≡ refused r ms))
  bind-refused w f bs r ms e = then-refused (run im eof room w bs) (λ a cs. run im eof room (f a) cs) r ms (sym (run_bind im eof room w f bs) ∙ e)

  -- a walk that enters a block first is done: the block is inside
  pub enter-inside : {A : Type 0} (v : Kind) (a : ℕ) (l : Length) (k : List ℕ → Walk A) (bs : List Block) (x : A) (ms : List Block) →
      run im eof room (enter v a l k) bs ≡ done x ms → a + length_in im v a l ≤ eof
  unfolding run
  enter-inside v a l k bs x ms e =
      (entry_answer-zero eof room bs a (length_in im v a l) (entered-done (entry_answer eof room bs a (length_in im v a l)) _ _ bs x ms e).0).0

  -- the blocks of a run that is done are no more than the room
  pub done-fits : {A : Type 0} (w : Walk A) (bs : List Block) (a : A) (ms : List Block) → length bs ≤ room → run im eof room w bs ≡ done a ms →
      length ms ≤ room
  done-fits w bs a ms l e = rw e at (run-grown im eof room w bs l).fits
