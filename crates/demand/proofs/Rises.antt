-- A walk raises a number that is kept with it by no more than the lengths of the blocks that it enters.
use Prim.Native.Nat.{ℕ, ◌+◌, ◌≤◌}
use mathlib.Core.Bool.{Bool, true, false}
use mathlib.Core.List.{List, [], ◌∷◌, ◌++◌}
use mathlib.Core.Path.{◌≡◌, refl, ap}
use native.Mathlib.Omega.{arith}
use Rattle.format.specs.Bytes.{part}
use Rattle.format.specs.Blocks.{Block, block_of, entry_answer}
use Rattle.format.specs.declared.Refusal.{Refusal}
use Rattle.format.specs.Result.{Result, value, answer}
use Rattle.format.specs.Walk.{kind_number, Kind, Length, fixed, length_in, shown, fault, Walk, ret, refuse, enter, enter_block, check, located, ◌>>=◌, ◌>>◌}
use Rattle.format.specs.Walk.{done, run}
use Rattle.walk.specs.Lent.{length_sum}
use Rattle.laws.proofs.SumOfLengths.{lengths-append}
use Rattle.laws.proofs.Plan.{plan, blocks}
use Rattle.laws.proofs.Restart.{run-done}
use Rattle.links.proofs.Outcomes.{bind_done, entered-done}

module _ (im : List ℕ) (eof room : ℕ) where
  -- a run that is done leaves all blocks
  pub grows : {A : Type 0} (w : Walk A) (bs : List Block) (a : A) (ms : List Block) → run im eof room w bs ≡ done a ms → length_sum bs ≤ length_sum ms
  grows w bs a ms e =
      omega (arith, ap length_sum (run-done im eof w room bs ms a e).all, lengths-append bs (blocks (plan im eof w)))

  module _ {S : Type 0} (μ : S → ℕ) where
    -- begun with the number x, the walk ends with a number that is larger by no more than the lengths of the blocks entered
    abbrev pub Rises : Walk S → ℕ → Type 0
    Rises w x = (bs : List Block) (a : S) (ms : List Block) → run im eof room w bs ≡ done a ms → μ a + length_sum bs ≤ x + length_sum ms

    pub rises-ret : (a : S) (x : ℕ) → μ a ≤ x → Rises (ret a) x
    unfolding run
    rises-ret a x l bs b ms e =
        let same : a ≡ b = cc in
        let left : bs ≡ ms = cc in
        omega (arith, ap μ same, ap length_sum left)

    pub rises-refuse : (r : Refusal) (x : ℕ) → Rises (refuse r) x
    unfolding run
    rises-refuse r x bs b ms e = let z : ◌≡◌ {A = ℕ} 0 1 = cc in absurd (omega arith)

    -- a larger number bounds it too
    pub rises-least : (w : Walk S) (x y : ℕ) → x ≤ y → Rises w x → Rises w y
    rises-least w x y l h bs a ms e = omega (arith, h bs a ms e)

    -- a reader, wherever its part stands
    pub rises-located : (at : ℕ) (r : Result S) (x : ℕ) → ((a : S) → r ≡ value a → μ a ≤ x) → Rises (located at r) x
    rises-located at (value a) x h = rises-ret a x (h a refl)
    rises-located at (answer n) x h = rises-refuse (fault n at) x

    -- after a test, which then holds
    pub rises-checked : (t : Bool) (r : Refusal) (w : Walk S) (x : ℕ) → (t ≡ true → Rises w x) → Rises (check t r >> w) x
    unfolding ◌>>=◌
    rises-checked true r w x h = h refl
    rises-checked false r w x h = rises-refuse r x

    -- after a block, which adds its length
    pub rises-enter : (v : Kind) (a : ℕ) (l : Length) (k : List ℕ → Walk S) (x : ℕ) →
        Rises (k (shown v (part im a (length_in im v a l)))) (x + length_in im v a l) → Rises (enter v a l k) x
    unfolding run length_sum
    rises-enter v a l k x h bs b ms e =
        let n = length_in im v a l in
        let d = entered-done (entry_answer eof room bs a n) _ _ bs b ms e in
        omega (arith, h (bs ++ (block_of (kind_number v) a n ∷ [])) b ms d.1, lengths-append bs (block_of (kind_number v) a n ∷ []))

    pub rises-block : (v : Kind) (a n : ℕ) (k : List ℕ → Walk S) (x : ℕ) → Rises (k (shown v (part im a n))) (x + n) → Rises (enter_block v a n >>= k) x
    unfolding ◌>>=◌
    rises-block v a n k x h = rises-enter v a (fixed n) k x h

    -- after a walk that leaves the number
    pub rises-after : {A : Type 0} (w : Walk A) (k : A → Walk S) (x : ℕ) → ((a : A) → Rises (k a) x) → Rises (w >>= k) x
    rises-after w k x h bs b ms e =
        let d = bind_done im eof room w k bs b ms e in
        omega (arith, grows w bs d.0 d.1 d.2, h d.0 d.1 b ms d.3)

  -- the same with as much more on both sides
  pub rises-more : {S : Type 0} (μ : S → ℕ) (w : Walk S) (x n : ℕ) → Rises μ w x → Rises (λ a. μ a + n) w (x + n)
  rises-more μ w x n h bs a ms e = omega (arith, h bs a ms e)

  module _ {S T : Type 0} (μ : S → ℕ) (ν : T → ℕ) where
    -- after a walk that raises it
    pub rises-then : (w : Walk S) (k : S → Walk T) (x y : ℕ) → Rises μ w x → ((a : S) → Rises ν (k a) (μ a + y)) → Rises ν (w >>= k) (x + y)
    rises-then w k x y g h bs b ms e =
        let d = bind_done im eof room w k bs b ms e in
        omega (arith, g bs d.0 d.1 d.2, h d.0 d.1 b ms d.3)

    pub rises-on : (w : Walk S) (k : S → Walk T) (x : ℕ) → Rises μ w x → ((a : S) → Rises ν (k a) (μ a)) → Rises ν (w >>= k) x
    rises-on w k x g h bs b ms e =
        let d = bind_done im eof room w k bs b ms e in
        omega (arith, g bs d.0 d.1 d.2, h d.0 d.1 b ms d.3)
