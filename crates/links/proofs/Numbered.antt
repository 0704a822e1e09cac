-- Walks that refuse with certain numbers only, whatever the image.
use Prim.Native.Nat.{ℕ, ◌+◌}
use mathlib.Core.Bool.{Bool, true, false}
use mathlib.Core.List.{List, [], ◌∷◌, ◌++◌}
use mathlib.Core.Path.{◌≡◌, refl}
use lib.Dec.{leb, ltb}
use lib.ListN.{length}
use Rattle.std.specs.Prelude.{if◌then◌else◌}
use Rattle.format.specs.Bytes.{part}
use Rattle.format.specs.Blocks.{Block, block_of, overlaps_any, entry_answer}
use Rattle.format.specs.declared.Refusal.{Refusal}
use Rattle.format.specs.Result.{Result, value, answer}
use Rattle.format.specs.Result as results
use Rattle.format.specs.Walk.{Kind, kind_number, Length, shown, length_in, known_length, fault as fault_at, not_entered, answer_of, met_of, Walk, ret}
use Rattle.format.specs.Walk.{refuse, enter, check, located, ◌>>=◌, Outcome, done, refused, if_entered, run, and_then}
use Rattle.format.specs.Names.{Text, text, fault, outside, no_nul, bad_form, in_free_block, fault_number, read_text}

-- every refusal in the walk, whatever it is shown, has one of the numbers N and gives no block met
unfoldable pub Numbered : (ℕ → Type 0) → {A : Type 0} → Walk A → Type 0
Numbered N (ret a) = Unit {0}
Numbered N (refuse r) = N (answer_of r) × (met_of r ≡ 0)
Numbered N (enter v a l k) = (b : List ℕ) → Numbered N (k b)

-- the same of a reader: its answer, if it gives one, is one of these numbers
unfoldable pub Answered : (ℕ → Type 0) → {A : Type 0} → Result A → Type 0
Answered N (value a) = Unit {0}
Answered N (answer n) = N n

-- the same of an outcome
abbrev pub Only : (ℕ → Type 0) → {A : Type 0} → Outcome A → Type 0
Only N (done a bs) = Unit {0}
Only N (refused r bs) = N (answer_of r)

module _ (N : ℕ → Type 0) where
  -- one walk after another
  pub numbered-bind : {A B : Type 0} (w : Walk A) (f : A → Walk B) → Numbered N w → ((a : A) → Numbered N (f a)) → Numbered N (w >>= f)
  unfolding Numbered ◌>>=◌
  numbered-bind (ret a) f h c = c a
  numbered-bind (refuse r) f h c = h
  numbered-bind (enter v a l k) f h c = λ b. numbered-bind (k b) f (h b) c

  pub numbered-ret : {A : Type 0} (a : A) → Numbered N (ret a)
  unfolding Numbered
  numbered-ret a = tt

  pub numbered-refuse : (A : Type 0) (n at : ℕ) → N n → Numbered N {A = A} (refuse (fault_at n at))
  unfolding Numbered
  numbered-refuse A n at h = (h, refl)

  pub numbered_enter : {A : Type 0} (v : Kind) (a : ℕ) (l : Length) (k : List ℕ → Walk A) → ((b : List ℕ) → Numbered N (k b)) → Numbered N (enter v a l k)
  unfolding Numbered
  numbered_enter v a l k h = h

  -- a test, and what follows
  pub numbered-check : {A : Type 0} (t : Bool) (n at : ℕ) (w : Walk A) → N n → Numbered N w → Numbered N (check t (fault_at n at) >>= λ _. w)
  unfolding Numbered ◌>>=◌
  numbered-check true n at w m h = h
  numbered-check false n at w m h = (m, refl)

  pub numbered-if : {A : Type 0} (t : Bool) (x y : Walk A) → Numbered N x → Numbered N y → Numbered N (if t then x else y)
  numbered-if true x y h k = h
  numbered-if false x y h k = k

  pub answered-bind : {A B : Type 0} (r : Result A) (f : A → Result B) → Answered N r → ((a : A) → Answered N (f a)) → Answered N (results.◌>>=◌ r f)
  unfolding Answered results.◌>>=◌
  answered-bind (value a) f h c = c a
  answered-bind (answer n) f h c = h

  pub answered-value : {A : Type 0} (a : A) → Answered N (value a)
  unfolding Answered
  answered-value a = tt

  pub answered-answer : (A : Type 0) (n : ℕ) → N n → Answered N {A = A} (answer n)
  unfolding Answered
  answered-answer A n h = h

  pub answered-check : {A : Type 0} (t : Bool) (n : ℕ) (r : Result A) → N n → Answered N r → Answered N (results.◌>>=◌ (results.check t n) (λ _. r))
  unfolding Answered results.◌>>=◌
  answered-check true n r m h = h
  answered-check false n r m h = m

  pub answered-if : {A : Type 0} (t : Bool) (x y : Result A) → Answered N x → Answered N y → Answered N (if t then x else y)
  answered-if true x y h k = h
  answered-if false x y h k = k

  -- "All these else give 9"
  pub answered-text : N 9 → (t : Text) → Answered N (read_text t)
  unfolding Answered fault_number
  answered-text nine (text t) = tt
  answered-text nine (fault outside) = nine
  answered-text nine (fault no_nul) = nine
  answered-text nine (fault bad_form) = nine
  answered-text nine (fault in_free_block) = nine

  -- wherever its part stands
  pub numbered-located : {A : Type 0} (at : ℕ) (r : Result A) → Answered N r → Numbered N (located at r)
  unfolding Numbered Answered
  numbered-located at (value a) h = tt
  numbered-located at (answer n) h = (h, refl)

  -- one run after another
  pub only_then : {A B : Type 0} (o : Outcome A) (f : A → List Block → Outcome B) → Only N o → ((a : A) (bs : List Block) → Only N (f a bs)) →
      Only N (and_then o f)
  only_then (done a bs) f h c = c a bs
  only_then (refused r bs) f h c = h

  module _ (five : N 5) (six : N 6) (full : N 13) where
    -- "To enter a block: 5, 6, 13"
    entered_only : {A : Type 0} (t u v : Bool) (f : ℕ → Refusal) (o : Outcome A) (bs : List Block) → ((m : ℕ) → answer_of (f m) ≡ m) → Only N o →
        Only N (if_entered (if t then if u then 6 else if v then 0 else 13 else 5) o (λ n. refused (f n) bs))
    entered_only true true v f o bs n h = rw (n 6) six
    entered_only true false true f o bs n h = h
    entered_only true false false f o bs n h = rw (n 13) full
    entered_only false u v f o bs n h = rw (n 5) five

    -- a run of such a walk is refused with one of these numbers
    pub run_only : (im : List ℕ) (eof room : ℕ) {A : Type 0} (w : Walk A) (bs : List Block) → Numbered N w → Only N (run im eof room w bs)
    unfolding Numbered run entry_answer
    run_only im eof room (ret a) bs h = tt
    run_only im eof room (refuse r) bs h = h.0
    run_only im eof room (enter v a l k) bs h =
        let n = length_in im v a l in
        let b = shown v (part im a n) in
        entered_only (leb (a + n) eof) (overlaps_any bs a n) (ltb (length bs) room)
        (λ m. not_entered m (kind_number v) a (known_length im eof v a l) bs) _ bs (λ m. refl)
        (run_only im eof room (k b) (bs ++ (block_of (kind_number v) a n ∷ [])) (h b))

    pub run-number : (im : List ℕ) (eof room : ℕ) {A : Type 0} (w : Walk A) (bs : List Block) (r : Refusal) (ms : List Block) → Numbered N w →
        run im eof room w bs ≡ refused r ms → N (answer_of r)
    run-number im eof room w bs r ms h e = rw e at (run_only im eof room w bs h)

-- the laws of such readers, and of such walks, for `search`
pub ruleset answers = (answered-bind, answered-value, answered-answer, answered-check, answered-if, answered-text, tt)

pub ruleset numbers = (numbered-bind, numbered-ret, numbered-refuse, numbered_enter, numbered-check, numbered-if, numbered-located, answered-text, tt)
