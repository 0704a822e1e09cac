-- All that a walk would be shown of an image if it had room for every block: what its runs are shown is the beginning of this.
use Prim.Native.Nat.{ℕ, ◌+◌}
use mathlib.Core.Bool.{Bool, true, false}
use mathlib.Core.List.{List, [], ◌∷◌, ◌++◌}
use mathlib.Core.Path.{◌≡◌, refl, ap}
use lib.Dec.{leb}
use Rattle.std.specs.Prelude.{if◌then◌else◌}
use Rattle.format.specs.Bytes.{part}
use Rattle.format.specs.Blocks.{Block, block_of}
use Rattle.format.specs.declared.Refusal.{Refusal}
use Rattle.format.specs.Walk.{kind_number, shown, length_in, Walk, ret, refuse, enter, ◌>>=◌, done, run}
use Rattle.laws.proofs.Plan.{fault, step, plan, EndsIn}
use Rattle.laws.proofs.Restart.{run-done}
use Rattle.laws.proofs.Follows.{Follows}
use Rattle.laws.specs.Shown.{Shown, contents, size}

unfoldable pub whole : {A : Type 0} → List ℕ → ℕ → Walk A → List Shown
whole im eof (ret a) = []
whole im eof (refuse n) = []
whole im eof (enter v a l k) =
    let n = length_in im v a l in
    let r = whole im eof (k (shown v (part im a n))) in
    if leb (a + n) eof then contents v a n ∷ r else size v a l ∷ []

module _ (im : List ℕ) (eof : ℕ) where
  -- behind a walk that ends in a value comes what follows it
  whole-bind : {A B : Type 0} (w : Walk A) (f : A → Walk B) (x : A) → EndsIn x (plan im eof w) → whole im eof (w >>= f) ≡ whole im eof w ++ whole im eof (f x)
  unfolding whole plan ◌>>=◌
  whole-bind (ret a) f x e = ap (λ (y : _). whole im eof (f y)) e
  whole-bind (refuse n) f x e = absurd e
  whole-bind {A} {B} (enter v a l k) f x e =
      let n = length_in im v a l in
      go _ n (leb (a + n) eof) e (whole-bind (k (shown v (part im a n))) f x)
    where
      go : (r : Refusal) (n : ℕ) (t : Bool) → EndsIn x (if t then step (block_of (kind_number v) a n) (plan im eof (k (shown v (part im a n)))) else fault r) →
          (EndsIn x (plan im eof (k (shown v (part im a n)))) → whole im eof (k (shown v (part im a n)) >>= f) ≡ whole im eof
          (k (shown v (part im a n))) ++ whole im eof (f x)) →
          (if t then contents v a n ∷ whole im eof (k (shown v (part im a n)) >>= f) else size v a l ∷ []) ≡
          (if t then contents v a n ∷ whole im eof (k (shown v (part im a n))) else size v a l ∷ []) ++ whole im eof (f x)
      go r n true h rest = ap (λ (ss : List Shown). contents v a n ∷ ss) (rest h)
      go r n false h rest = absurd h

  -- what is shown nothing adds nothing
  pub whole-quiet : {A B : Type 0} (w : Walk A) (f : A → Walk B) → ((x : A) → whole im eof (f x) ≡ []) → whole im eof (w >>= f) ≡ whole im eof w
  unfolding whole ◌>>=◌
  whole-quiet (ret a) f q = q a
  whole-quiet (refuse n) f q = refl
  whole-quiet (enter v a l k) f q =
      let n = length_in im v a l in
      ap (λ (ss : List Shown). if leb (a + n) eof then contents v a n ∷ ss else size v a l ∷ []) (whole-quiet (k (shown v (part im a n))) f q)

  -- a walk that follows one which ends in a value is shown the same
  whole-follow : {S T : Type 0} (exact : Bool) (R : S → T → Type 0) (w : Walk S) (w' : Walk T) (x : S) → Follows exact R w w' → EndsIn x (plan im eof w) →
      whole im eof w' ≡ whole im eof w
  unfolding whole plan Follows
  whole-follow exact R (ret s) w' x h e = rw h.1
  whole-follow exact R (refuse n) w' x h e = absurd e
  whole-follow {S} {T} exact R (enter v a l k) w' x h e =
      let n = length_in im v a l in
      rw h.1 (go _ n (leb (a + n) eof) e (whole-follow exact R (k (shown v (part im a n))) (h.0 (shown v (part im a n))) x (h.2 (shown v (part im a n)))))
    where
      go : (r : Refusal) (n : ℕ) (t : Bool) → EndsIn x (if t then step (block_of (kind_number v) a n) (plan im eof (k (shown v (part im a n)))) else fault r) →
          (EndsIn x (plan im eof (k (shown v (part im a n)))) → whole im eof (h.0 (shown v (part im a n))) ≡ whole im eof (k (shown v (part im a n)))) →
          (if t then contents v a n ∷ whole im eof (h.0 (shown v (part im a n))) else size v a l ∷ []) ≡
          (if t then contents v a n ∷ whole im eof (k (shown v (part im a n))) else size v a l ∷ [])
      go r n true q rest = ap (λ (ss : List Shown). contents v a n ∷ ss) (rest q)
      go r n false q rest = refl

  -- the same, by a run that is done
  pub whole-then : {A B : Type 0} (w : Walk A) (f : A → Walk B) (room : ℕ) (bs : List Block) (x : A) (ms : List Block) → run im eof room w bs ≡ done x ms →
      whole im eof (w >>= f) ≡ whole im eof w ++ whole im eof (f x)
  whole-then w f room bs x ms e = whole-bind w f x (run-done im eof w room bs ms x e).ends

  pub whole-followed : {S T : Type 0} (exact : Bool) (R : S → T → Type 0) (w : Walk S) (w' : Walk T) (room : ℕ) (bs : List Block) (x : S) (ms : List Block) →
      run im eof room w bs ≡ done x ms →
      Follows exact R w w' → whole im eof w' ≡ whole im eof w
  whole-followed exact R w w' room bs x ms e f = whole-follow exact R w w' x f (run-done im eof w room bs ms x e).ends
