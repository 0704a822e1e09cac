-- The simulation: what is left of a walk at a place of a function's code. Each law is one step of code against one step of the walk.
use mathlib.Core.Path.{◌≡◌, refl, ap, sym, ◌∙◌}
use mathlib.Core.Bool.{Bool, true, false}
use mathlib.Core.List.{List, [], ◌∷◌, ◌++◌}
use Prim.Native.Nat.{ℕ, suc, ◌+◌, ◌*◌, ◌≤◌, ◌<◌}
use native.Mathlib.Omega.{arith}
use lib.ListN.{length, get_or, length-append}
use borrow.Author.Tests.{lt-leb}
use Rattle.std.specs.Prelude.{if◌then◌else◌}
use Rattle.format.specs.Bytes.{part}
use Rattle.format.specs.Blocks.{Block, block_of, no_object, overlaps_any, entry_answer}
use Rattle.format.specs.declared.Refusal.{Refusal}
use Rattle.format.specs.Walk.{Kind, kind_number, not_entered, shown, Length, stored, length_in, known_length, Walk, ret, refuse}
use Rattle.format.specs.Walk.{enter, enter_block, check, ◌>>=◌, ◌>>◌, Outcome, done, refused, if_entered, run, and_then}
use Rattle.block_index.specs.Index.{first_from}
use Rattle.walk.specs.Lent.{blocks_of, Lent, Ended, ended, stopped, left, Walked, Added, entering, IsEntered, entry_end}
use Rattle.std.specs.Prelude.{Result, Ok, Err}
use Rattle.laws.proofs.Bind.{run_bind}
use Rattle.laws.proofs.Growth.{Grown, unchanged, grown-on, run-grown}
use Rattle.walk.proofs.BlockList.{length-blocks_of, words-blocks, entered-zero, refused-suc, entry_answer-zero, entry_answer-outside}
use Rattle.walk.proofs.Owners.{added-blocks, added-lent, added-rest}

-- The walk w₀, begun with n₀ blocks in the list ws₀, has come to w, with n blocks in ws.
pub record Simulation (im : List ℕ) (eof room : ℕ) {A : Type 0} (w₀ : Walk A) (n₀ : ℕ) (ws₀ : List ℕ) (w : Walk A) (n : ℕ) (ws : List ℕ) : Type 0 where
  pub lent : Lent ws n room
  pub same_length : length ws ≡ length ws₀
  pub grown : n₀ ≤ n
  pub blocks : Grown eof room (blocks_of n₀ ws₀) (blocks_of n ws)
  pub same_run : run im eof room w₀ (blocks_of n₀ ws₀) ≡ run im eof room w (blocks_of n ws)
  pub rest : (k : ℕ) → 4 * n ≤ k → k < first_from (length ws₀) → get_or ws k 0 ≡ get_or ws₀ k 0

pub start : (im : List ℕ) (eof room : ℕ) {A : Type 0} (w : Walk A) (n : ℕ) (ws : List ℕ) → Lent ws n room → Simulation im eof room w n ws w n ws
start im eof room w n ws l = record {
  lent = l;
  same_length = refl;
  grown = omega arith;
  blocks = unchanged eof room (blocks_of n ws) (rw length-blocks_of l.counted);
  same_run = refl;
  rest = λ k h u. refl;
}

-- a function that returned a value and a count: the outcome is that value with the blocks that the list holds
pub walked-done : {A : Type 0} (ws ws' : List ℕ) (a : A) (c : ℕ) (o : Outcome A) → Walked ws ws' (ended a c) o → o ≡ done a (blocks_of c ws')
walked-done ws ws' a c (done b bs) w =
    let e : length bs ≡ c = cc w.answer in
    let f : b ≡ a = cc w.answer in
    rw f (ap (done a) (rw e at (sym (words-blocks no_object bs ws' w.held))))
walked-done ws ws' a c (refused r bs) w = let z : ◌≡◌ {A = ℕ} 0 1 = cc w.answer in absurd (omega arith)

-- a function that stopped: the outcome is its answer
pub walked-refused : {A : Type 0} (ws ws' : List ℕ) (r : Refusal) (o : Outcome A) → Walked ws ws' (stopped r) o → (bs : List Block) × (o ≡ refused r bs)
walked-refused ws ws' r (done a bs) w = let z : ◌≡◌ {A = ℕ} 0 1 = cc w.answer in absurd (omega arith)
walked-refused ws ws' r (refused q bs) w = let e : q ≡ r = cc w.answer in (bs, rw e refl)

-- a function that stopped has stopped what follows it too
walked-stopped : {A B : Type 0} (ws ws' : List ℕ) (r : Refusal) (o : Outcome A) (f : A → List Block → Outcome B) → Walked ws ws' (stopped r) o →
    Walked ws ws' (stopped r) (and_then o f)
walked-stopped ws ws' r (done b bs) f w = let z : ◌≡◌ {A = ℕ} 0 1 = cc w.answer in absurd (omega arith)
walked-stopped ws ws' r (refused q bs) f w =
    let e : r ≡ q = cc w.answer in
    record { answer = ap stopped e; held = w.held; rest = w.rest; indexed = w.indexed }

-- one stretch of the walk behind another
pub come-from : {im : List ℕ} {eof room : ℕ} {A : Type 0} {w₀ w₁ w₂ : Walk A} {n₀ n₁ n₂ : ℕ} {ws₀ ws₁ ws₂ : List ℕ} →
    Simulation im eof room w₀ n₀ ws₀ w₁ n₁ ws₁ → Simulation im eof room w₁ n₁ ws₁ w₂ n₂ ws₂ → Simulation im eof room w₀ n₀ ws₀ w₂ n₂ ws₂
come-from s u = record {
  lent = u.lent;
  same_length = u.same_length ∙ s.same_length;
  grown = omega (arith, s.grown, u.grown);
  blocks = grown-on s.blocks u.blocks;
  same_run = s.same_run ∙ u.same_run;
  rest = λ k h f. u.rest k h (rw s.same_length f) ∙ s.rest k (omega (arith, u.grown)) f;
}

-- the function `enter`, where it entered a block of m bytes
module _ (eof room : ℕ) (v : Kind) (a m n : ℕ) (ws ws₁ : List ℕ) (l : Lent ws n room)
    (q : IsEntered (entry_answer eof room (blocks_of n ws) a m) ws n (kind_number v) a m ws₁) (c : ℕ)
    (p : Ok c ≡ entering (entry_answer eof room (blocks_of n ws) a m) (kind_number v) a m (blocks_of n ws) n) where
  zero-answer : (entry_answer eof room (blocks_of n ws) a m ≡ 0) × (c ≡ n + 1)
  zero-answer = entered-zero (kind_number v) a m (blocks_of n ws) (entry_answer eof room (blocks_of n ws) a m) n c p

  allowed : (a + m ≤ eof) × (overlaps_any (blocks_of n ws) a m ≡ false) × (length (blocks_of n ws) < room)
  allowed = entry_answer-zero eof room (blocks_of n ws) a m zero-answer.0

  -- the block stands behind the others
  pub entered-blocks : blocks_of c ws₁ ≡ blocks_of n ws ++ (block_of (kind_number v) a m ∷ [])
  entered-blocks =
      let y : n < room = rw length-blocks_of at allowed.2 in
      let w : Added ws n (kind_number v) a m ws₁ = rw zero-answer.0 at q in
      rw zero-answer.1 (added-blocks ws ws₁ n room (kind_number v) a m l y w)

  pub entered-grown : Grown eof room (blocks_of n ws) (blocks_of c ws₁)
  entered-grown =
      let y : n < room = rw length-blocks_of at allowed.2 in
      record {
        new = block_of (kind_number v) a m ∷ [];
        all = entered-blocks;
        fresh = (allowed.1, tt);
        inside = (allowed.0, tt);
        fits = rw length-blocks_of (omega (arith, zero-answer.1));
      }

module _ {im : List ℕ} {eof room : ℕ} {A : Type 0} {w₀ : Walk A} {n₀ : ℕ} {ws₀ : List ℕ} {n : ℕ} {ws : List ℕ} where
  -- what is left may be put another way
  pub same-walk : {w : Walk A} (w' : Walk A) → w ≡ w' → Simulation im eof room w₀ n₀ ws₀ w n ws → Simulation im eof room w₀ n₀ ws₀ w' n ws
  same-walk w' e s = record {
    lent = s.lent;
    same_length = s.same_length;
    grown = s.grown;
    blocks = s.blocks;
    same_run = s.same_run ∙ ap (λ (x : Walk A). run im eof room x (blocks_of n ws)) e;
    rest = s.rest;
  }

  -- the function returns, with a value or with a refusal
  pub returned : {a : A} → Simulation im eof room w₀ n₀ ws₀ (ret a) n ws → Walked ws₀ ws (ended a n) (run im eof room w₀ (blocks_of n₀ ws₀))
  unfolding run
  returned {a} s = rw s.same_run (record {
    answer = ap (ended a) (sym (length-blocks_of n ws));
    held = rw length-blocks_of s.lent.numbered;
    rest = λ k h f. s.rest k (rw length-blocks_of at h) f;
    indexed = rw length-blocks_of s.lent.indexed;
  })

  pub refusal : {r : Refusal} → Simulation im eof room w₀ n₀ ws₀ (refuse r) n ws → Walked ws₀ ws (stopped r) (run im eof room w₀ (blocks_of n₀ ws₀))
  unfolding run
  refusal s = rw s.same_run (record {
    answer = refl;
    held = rw length-blocks_of s.lent.numbered;
    rest = λ k h f. s.rest k (rw length-blocks_of at h) f;
    indexed = rw length-blocks_of s.lent.indexed;
  })

  -- a test that passed, and one that failed
  pub passed : (t : Bool) (r : Refusal) (f : Unit {0} → Walk A) → t ≡ true → Simulation im eof room w₀ n₀ ws₀ (check t r >>= f) n ws →
      Simulation im eof room w₀ n₀ ws₀ (f tt) n ws
  unfolding ◌>>=◌
  passed t r f e s = same-walk (f tt) (rw e) s

  pub failed : (t : Bool) (r : Refusal) (f : Unit {0} → Walk A) → t ≡ false → Simulation im eof room w₀ n₀ ws₀ (check t r >>= f) n ws →
      Walked ws₀ ws (stopped r) (run im eof room w₀ (blocks_of n₀ ws₀))
  unfolding ◌>>=◌
  failed t r f e s = refusal (same-walk (refuse r) (rw e) s)

  -- a choice that is made
  pub chosen-then : (t : Bool) (x y : Walk A) → t ≡ true → Simulation im eof room w₀ n₀ ws₀ (if t then x else y) n ws → Simulation im eof room w₀ n₀ ws₀ x n ws
  chosen-then t x y e s = same-walk x (rw e) s

  -- a callee that enters no block, and whose walk is known to be done or refused
  pub callee-value : {B : Type 0} (w : Walk B) (f : B → Walk A) (b : B) → w ≡ ret b → Simulation im eof room w₀ n₀ ws₀ (w >>= f) n ws →
      Simulation im eof room w₀ n₀ ws₀ (f b) n ws
  unfolding ◌>>=◌
  callee-value w f b e s = same-walk (f b) (rw e) s

  pub callee-refusal : {B : Type 0} (w : Walk B) (f : B → Walk A) (r : Refusal) → w ≡ refuse r → Simulation im eof room w₀ n₀ ws₀ (w >>= f) n ws →
      Walked ws₀ ws (stopped r) (run im eof room w₀ (blocks_of n₀ ws₀))
  unfolding ◌>>=◌
  callee-refusal w f r e s = refusal (same-walk (refuse r) (rw e) s)

  -- a block whose prefix, or whose whole, isn't inside
  pub outside : {v : Kind} {a p : ℕ} {rest : List ℕ → ℕ} {k : List ℕ → Walk A} → eof < a + p →
      Simulation im eof room w₀ n₀ ws₀ (enter v a (stored p rest) k) n ws →
      Walked ws₀ ws (stopped (not_entered 5 (kind_number v) a p [])) (run im eof room w₀ (blocks_of n₀ ws₀))
  unfolding run
  outside {v} {a} {p} {rest} {k} h s =
      let e : run im eof room w₀ (blocks_of n₀ ws₀) ≡ refused (not_entered 5 (kind_number v) a p []) (blocks_of n ws) =
      s.same_run ∙ rw (entry_answer-outside eof room (blocks_of n ws) a (length_in im v a (stored p rest)) (omega arith), lt-leb (a + p) eof h) in
      rw e (record {
        answer = refl;
        held = rw length-blocks_of s.lent.numbered;
        rest = λ k h f. s.rest k (rw length-blocks_of at h) f;
        indexed = rw length-blocks_of s.lent.indexed;
      })

  -- the function `enter`, called for a block of m bytes
  module _ {v : Kind} {a : ℕ} {l : Length} {k : List ℕ → Walk A} (m : ℕ) (sized : m ≡ length_in im v a l) (known : known_length im eof v a l ≡ m) (ws₁ : List ℕ)
      (s : Simulation im eof room w₀ n₀ ws₀ (enter v a l k) n ws)
      (q : IsEntered (entry_answer eof room (blocks_of n ws) a m) ws n (kind_number v) a m ws₁) where
    abbrev answer : ℕ
    answer = entry_answer eof room (blocks_of n ws) a m

    pub entered-inside : (c : ℕ) → Ok c ≡ entering answer (kind_number v) a m (blocks_of n ws) n → a + m ≤ eof
    entered-inside c p = (entry_answer-zero eof room (blocks_of n ws) a m (entered-zero (kind_number v) a m (blocks_of n ws) answer n c p).0).0

    pub block-entered : (c : ℕ) → Ok c ≡ entering answer (kind_number v) a m (blocks_of n ws) n →
        Simulation im eof room w₀ n₀ ws₀ (k (shown v (part im a m))) c ws₁
    unfolding run
    block-entered c p =
        let z = entered-zero (kind_number v) a m (blocks_of n ws) answer n c p in
        let y : n < room = rw length-blocks_of at (entry_answer-zero eof room (blocks_of n ws) a m z.0).2 in
        let w : Added ws n (kind_number v) a m ws₁ = rw z.0 at q in
        let b = entered-blocks eof room v a m n ws ws₁ s.lent q c p in
        record {
          lent = rw z.1 (added-lent ws ws₁ n room (kind_number v) a m s.lent y w);
          same_length = w.long ∙ s.same_length;
          grown = omega (arith, s.grown, z.1);
          blocks = grown-on s.blocks (entered-grown eof room v a m n ws ws₁ s.lent q c p);
          same_run = s.same_run ∙ rw (← sized, z.0, b);
          rest = λ i h f.
              added-rest ws ws₁ n room (kind_number v) a m s.lent y w i (omega (arith, z.1)) (rw s.same_length f) ∙ s.rest i (omega (arith, z.1)) f;
        }

    pub block_refused : (r : Refusal) → Err r ≡ entering answer (kind_number v) a m (blocks_of n ws) n →
        Walked ws₀ ws₁ (stopped r) (run im eof room w₀ (blocks_of n₀ ws₀))
    unfolding run
    block_refused r p =
        let z = refused-suc (kind_number v) a m (blocks_of n ws) answer n r p in
        let w : ws₁ ≡ ws = rw z.1 at q in
        let e : run im eof room w₀ (blocks_of n₀ ws₀) ≡ refused (not_entered (suc z.0) (kind_number v) a (known_length im eof v a l) (blocks_of n ws))
        (blocks_of n ws) =
        (rw (← sized) at s.same_run)
        ∙ ap (λ (y : ℕ). if_entered y (run im eof room (k (shown v (part im a m))) (blocks_of n ws ++ (block_of (kind_number v) a m ∷ [])))
        (λ j. refused (not_entered j (kind_number v) a (known_length im eof v a l) (blocks_of n ws)) (blocks_of n ws))) z.1 in
        rw (e, w) (record {
          answer = ap stopped (z.2 ∙ ap (λ (y : ℕ). not_entered (suc z.0) (kind_number v) a y (blocks_of n ws)) (sym known));
          held = rw length-blocks_of s.lent.numbered;
          rest = λ k h f. s.rest k (rw length-blocks_of at h) f;
          indexed = rw length-blocks_of s.lent.indexed;
        })

  -- a callee that walks w and leaves the list ws₁
  module _ (ws₁ : List ℕ) where
    -- it was the last: its return is the function's
    pub callee-last : {w : Walk A} {r : Ended A} → Simulation im eof room w₀ n₀ ws₀ w n ws → Walked ws ws₁ r (run im eof room w (blocks_of n ws)) →
        Walked ws₀ ws₁ r (run im eof room w₀ (blocks_of n₀ ws₀))
    callee-last {w} {r} s h =
        let d = run-grown im eof room w (blocks_of n ws) (rw length-blocks_of s.lent.counted) in
        let m : n ≤ length (left (run im eof room w (blocks_of n ws))) = omega (arith, simp (length-append, length-blocks_of) at (ap length d.all)) in
        rw s.same_run (record {
          answer = h.answer;
          held = h.held;
          rest = λ i b f. h.rest i b (rw s.same_length f) ∙ s.rest i (omega (arith, m)) f;
          indexed = h.indexed;
        })

    module _ {B : Type 0} (w : Walk B) (f : B → Walk A) (s : Simulation im eof room w₀ n₀ ws₀ (w >>= f) n ws) where
      -- it stopped, and so does the function
      pub callee-stopped : {r : Refusal} → Walked ws ws₁ (stopped r) (run im eof room w (blocks_of n ws)) →
          Walked ws₀ ws₁ (stopped r) (run im eof room w₀ (blocks_of n₀ ws₀))
      callee-stopped {r} h = callee-last s (rw run_bind (walked-stopped ws ws₁ r (run im eof room w (blocks_of n ws)) (λ a cs. run im eof room (f a) cs) h))

      -- it returned a value, and the function goes on
      pub callee-done : {b : B} {c : ℕ} → length ws₁ ≡ length ws → Walked ws ws₁ (ended b c) (run im eof room w (blocks_of n ws)) →
          Simulation im eof room w₀ n₀ ws₀ (f b) c ws₁
      callee-done {b} {c} e h =
          let o = walked-done ws ws₁ b c _ h in
          let d = run-grown im eof room w (blocks_of n ws) (rw length-blocks_of s.lent.counted) in
          let m : length (left (run im eof room w (blocks_of n ws))) ≡ c = rw o (length-blocks_of c ws₁) in
          let m2 : n ≤ length (left (run im eof room w (blocks_of n ws))) = omega (arith, simp (length-append, length-blocks_of) at (ap length d.all)) in
          record {
            lent = record {
              counted = omega (arith, d.fits, m);
              lent = omega (arith, s.lent.lent, e);
              numbered = rw (o, length-blocks_of) at h.held;
              indexed = rw (o, length-blocks_of) at h.indexed;
            };
            same_length = e ∙ s.same_length;
            grown = omega (arith, m, m2, s.grown);
            blocks = grown-on s.blocks (rw o at d);
            same_run = s.same_run ∙ run_bind im eof room w f (blocks_of n ws) ∙ rw o;
            rest = λ i k f. h.rest i (omega (arith, m)) (rw s.same_length f) ∙ s.rest i (omega (arith, m, m2)) f;
          }

-- a function that only enters a block of m bytes
pub one_block : (im : List ℕ) (eof room : ℕ) (v : Kind) (a m n : ℕ) (ws ws₁ : List ℕ) (r : Result ℕ Refusal) → Lent ws n room →
    r ≡ entering (entry_answer eof room (blocks_of n ws) a m) (kind_number v) a m (blocks_of n ws) n →
    IsEntered (entry_answer eof room (blocks_of n ws) a m) ws n (kind_number v) a m ws₁ →
    Walked ws ws₁ (entry_end r) (run im eof room (enter_block v a m >> ret tt) (blocks_of n ws))
unfolding ◌>>=◌
one_block im eof room v a m n ws ws₁ (Ok c) l e q = returned (block-entered m refl refl ws₁ (start im eof room (enter_block v a m >> ret tt) n ws l) q c e)
one_block im eof room v a m n ws ws₁ (Err r) l e q = block_refused m refl refl ws₁ (start im eof room (enter_block v a m >> ret tt) n ws l) q r e
