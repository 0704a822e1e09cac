-- A walk whose run is done is shown blocks only, and no two of them share a byte.
use Prim.Native.Nat.{ℕ, ◌+◌}
use mathlib.Core.Bool.{Bool, true, false}
use mathlib.Core.List.Memᴰ
use mathlib.Core.List.{List, [], ◌∷◌, ◌++◌, Memᴰ}
use mathlib.Core.Logic.{◌⊎◌, inl, inr, ⊎_elim}
use mathlib.Core.Path.{◌≡◌, sym, ◌∙◌}
use native.Mathlib.Omega.{arith}
use lib.Dec.{leb}
use Rattle.std.specs.Prelude.{if◌then◌else◌}
use Rattle.format.specs.Bytes.{part}
use Rattle.format.specs.Blocks.{Block, block_of, overlaps_any}
use Rattle.format.specs.declared.Refusal.{Refusal}
use Rattle.format.specs.Walk.{Kind, kind_number, Length, shown, length_in, Walk, ret, refuse, enter, done, run}
use Rattle.laws.specs.Blocks.{Fresh}
use Rattle.laws.specs.Shown.{contents, size}
use Rattle.laws.proofs.Disjoint.{Apart, fresh-apart, apart-second, apart-order}
use Rattle.laws.proofs.Plan.{fault, step, plan, blocks, EndsIn}
use Rattle.laws.proofs.Restart.{run-done}
use Rattle.found.specs.Beside.{Beside}
use Rattle.found.proofs.Whole.{whole}

beside-swap : (a n a' n' : ℕ) → Beside a n a' n' → Beside a' n' a n
beside-swap a n a' n' (inl h) = inr h
beside-swap a n a' n' (inr h) = inl h

module _ (im : List ℕ) (eof : ℕ) {A : Type 0} where
  -- a block that is shown is one of the plan's
  shown-apart : (w : Walk A) (x : A) (bs : List Block) → EndsIn x (plan im eof w) → Apart bs (blocks (plan im eof w)) → (v : Kind) (a n : ℕ) →
      Memᴰ (contents v a n) (whole im eof w) → overlaps_any bs a n ≡ false
  unfolding whole plan
  shown-apart (ret y) x bs e h v a n m = absurd (Memᴰ.not-nil m)
  shown-apart (refuse k) x bs e h v a n m = absurd (Memᴰ.not-nil m)
  shown-apart (enter u b l k) x bs e h v a n m =
      let size = length_in im u b l in
      go _ size (leb (b + size) eof) e h m (shown-apart (k (shown u (part im b size))) x bs)
    where
      go : (r : Refusal) (c : ℕ) (t : Bool) → EndsIn x (if t then step (block_of (kind_number u) b c) (plan im eof (k (shown u (part im b c)))) else fault r) →
          Apart bs (blocks (if t then step (block_of (kind_number u) b c) (plan im eof (k (shown u (part im b c)))) else fault r)) →
          Memᴰ (contents v a n) (if t then contents u b c ∷ whole im eof (k (shown u (part im b c))) else size u b l ∷ []) →
          (EndsIn x (plan im eof (k (shown u (part im b c)))) → Apart bs (blocks (plan im eof (k (shown u (part im b c))))) → (v : Kind) (a n : ℕ) →
          Memᴰ (contents v a n) (whole im eof (k (shown u (part im b c)))) → overlaps_any bs a n ≡ false) →
          overlaps_any bs a n ≡ false
      go r c true q p i rest =
          ⊎_elim
          (λ same.
          let at : a ≡ b = cc in
          let long : n ≡ c = cc in
          rw (at, long) p.0)
          (λ later. rest q p.1 v a n later) (Memᴰ.cases_cons i)
      go r c false q p i rest = absurd q

  no_size : (w : Walk A) (x : A) → EndsIn x (plan im eof w) → (v : Kind) (a : ℕ) (l : Length) → Memᴰ (size v a l) (whole im eof w) → ⊥
  unfolding whole plan
  no_size (ret y) x e v a l m = Memᴰ.not-nil m
  no_size (refuse k) x e v a l m = Memᴰ.not-nil m
  no_size (enter u b l k) x e v a j m =
      let size = length_in im u b l in
      go _ size (leb (b + size) eof) e m (no_size (k (shown u (part im b size))) x)
    where
      go : (r : Refusal) (c : ℕ) (t : Bool) → EndsIn x (if t then step (block_of (kind_number u) b c) (plan im eof (k (shown u (part im b c)))) else fault r) →
          Memᴰ (size v a j) (if t then contents u b c ∷ whole im eof (k (shown u (part im b c))) else size u b l ∷ []) →
          (EndsIn x (plan im eof (k (shown u (part im b c)))) → (v : Kind) (a : ℕ) (l : Length) →
          Memᴰ (size v a l) (whole im eof (k (shown u (part im b c)))) → ⊥) → ⊥
      go r c true q i rest = ⊎_elim (λ same. let z : ◌≡◌ {A = ℕ} 0 1 = cc in omega arith) (λ later. rest q v a j later) (Memᴰ.cases_cons i)
      go r c false q i rest = absurd q

  two-beside : (w : Walk A) (x : A) (bs : List Block) → EndsIn x (plan im eof w) → Fresh bs (blocks (plan im eof w)) → (v v' : Kind) (a n a' n' : ℕ) →
      Memᴰ (contents v a n) (whole im eof w) → Memᴰ (contents v' a' n') (whole im eof w) → (contents v a n ≡ contents v' a' n') ⊎ Beside a n a' n'
  unfolding whole plan
  two-beside (ret y) x bs e h v v' a n a' n' m m' = absurd (Memᴰ.not-nil m)
  two-beside (refuse k) x bs e h v v' a n a' n' m m' = absurd (Memᴰ.not-nil m)
  two-beside (enter u b l k) x bs e h v v' a n a' n' m m' =
      let size = length_in im u b l in
      go _ size (leb (b + size) eof) e h m m' (two-beside (k (shown u (part im b size))) x (bs ++ (block_of (kind_number u) b size ∷ [])))
    where
      -- the first block, and a later one
      apart : (c : ℕ) → EndsIn x (plan im eof (k (shown u (part im b c)))) →
          Fresh (bs ++ (block_of (kind_number u) b c ∷ [])) (blocks (plan im eof (k (shown u (part im b c))))) → (y : Kind) (d o : ℕ) →
          Memᴰ (contents y d o) (whole im eof (k (shown u (part im b c)))) → Beside d o b c
      apart c q f y d o i =
          apart-order (block_of (kind_number u) b c) d o
          (shown-apart (k (shown u (part im b c))) x (block_of (kind_number u) b c ∷ []) q
          (apart-second bs (block_of (kind_number u) b c ∷ []) (blocks (plan im eof (k (shown u (part im b c)))))
          (fresh-apart (bs ++ (block_of (kind_number u) b c ∷ [])) (blocks (plan im eof (k (shown u (part im b c))))) f)) y d o i)

      go : (r : Refusal) (c : ℕ) (t : Bool) → EndsIn x (if t then step (block_of (kind_number u) b c) (plan im eof (k (shown u (part im b c)))) else fault r) →
          Fresh bs (blocks (if t then step (block_of (kind_number u) b c) (plan im eof (k (shown u (part im b c)))) else fault r)) →
          Memᴰ (contents v a n) (if t then contents u b c ∷ whole im eof (k (shown u (part im b c))) else size u b l ∷ []) →
          Memᴰ (contents v' a' n') (if t then contents u b c ∷ whole im eof (k (shown u (part im b c))) else size u b l ∷ []) →
          (EndsIn x (plan im eof (k (shown u (part im b c)))) →
          Fresh (bs ++ (block_of (kind_number u) b c ∷ [])) (blocks (plan im eof (k (shown u (part im b c))))) →
          (v v' : Kind) (a n a' n' : ℕ) →
          Memᴰ (contents v a n) (whole im eof (k (shown u (part im b c)))) → Memᴰ (contents v' a' n') (whole im eof (k (shown u (part im b c)))) →
          (contents v a n ≡ contents v' a' n') ⊎ Beside a n a' n') →
          (contents v a n ≡ contents v' a' n') ⊎ Beside a n a' n'
      go r c true q p i i' rest =
          ⊎_elim
          (λ same.
          let at : a ≡ b = cc in
          let long : n ≡ c = cc in
          ⊎_elim (λ same'. inl (same ∙ sym same')) (λ later'. inr (rw (at, long) (beside-swap a' n' b c (apart c q p.1 v' a' n' later'))))
          (Memᴰ.cases_cons i'))
          (λ later.
          ⊎_elim
          (λ same'.
          let at : a' ≡ b = cc in
          let long : n' ≡ c = cc in
          inr (rw (at, long) (apart c q p.1 v a n later)))
          (λ later'. rest q p.1 v v' a n a' n' later later') (Memᴰ.cases_cons i'))
          (Memᴰ.cases_cons i)
      go r c false q p i i' rest = absurd q

  module _ (w : Walk A) (room : ℕ) (bs : List Block) (x : A) (ms : List Block) (e : run im eof room w bs ≡ done x ms) where
    pub no_length : (v : Kind) (a : ℕ) (l : Length) → Memᴰ (size v a l) (whole im eof w) → ⊥
    no_length v a l m = no_size w x (run-done im eof w room bs ms x e).ends v a l m

    pub blocks-beside : (v v' : Kind) (a n a' n' : ℕ) → Memᴰ (contents v a n) (whole im eof w) → Memᴰ (contents v' a' n') (whole im eof w) →
        (contents v a n ≡ contents v' a' n') ⊎ Beside a n a' n'
    blocks-beside v v' a n a' n' m m' = let d = run-done im eof w room bs ms x e in two-beside w x bs d.ends d.fresh v v' a n a' n' m m'
