-- Laws of the search in both runs: a block is one of the first run or of the second, and the tests of both searches are few.
use Prim.Native.Nat.{ℕ, ◌+◌, ◌-◌, ◌^◌, ◌≤◌, ◌<◌}
use mathlib.Core.Bool.{Bool, true, false}
use mathlib.Core.List.{List}
use mathlib.Core.Logic.{⊎_elim}
use mathlib.Core.Path.{◌≡◌, sym, ◌∙◌}
use native.Mathlib.Omega.{arith}
use lib.ListN.{length}
use Rattle.ordering.proofs.OrderLaws.{below_or_not}
use Rattle.block_index.specs.Index.{Indexed, Meets, Apart, merged_of, recent_of}
use Rattle.block_index.specs.Search.{Sorted, Placed, FoundIn, first_run, second_run}
use Rattle.block_index.specs.declared.search.Run.{Run}
use Rattle.block_index.proofs.SearchLaws.{never_met}
use Rattle.block_index.proofs.SortedRuns.{first-sorted, second-sorted}

-- a block of the run is met, or none is
abbrev pub Hit : List ℕ → Run → ℕ → ℕ → Type 0
Hit ws r a n = (b : ℕ) × (b < r.count) × Meets ws (r.first + b) a n

abbrev pub Missed : List ℕ → Run → ℕ → ℕ → Type 0
Missed ws r a n = (b : ℕ) → b < r.count → Apart ws (r.first + b) a n

-- the answer says whether one of the blocks is met
pub record Decided (ws : List ℕ) (count a n : ℕ) (met : Bool) : Type 0 where
  pub meets : met ≡ true → (b : ℕ) × (b < count) × Meets ws b a n
  pub apart : met ≡ false → (b : ℕ) → b < count → Apart ws b a n

-- the tests of both searches; the second run has fewer than 2 ^ 6 blocks
pub tests-both : (count t u : ℕ) → ((m : ℕ) → merged_of count < 2 ^ m → t ≤ m + 2) → ((m : ℕ) → recent_of count < 2 ^ m → u ≤ m + 2) →
    (m : ℕ) → count < 2 ^ m → t + u ≤ m + 10
tests-both count t u d e m h = omega (arith, d m (omega arith), e 6 (omega arith))

module _ (ws : List ℕ) (count : ℕ) (r s : Run) (f : r ≡ first_run (length ws) count) (g : s ≡ second_run (length ws) count) where
  pub run-sorted : Indexed ws count → Sorted ws r
  run-sorted x = rw f (first-sorted ws count x)

  pub last-sorted : Indexed ws count → Sorted ws s
  last-sorted x = rw g (second-sorted ws count x)

  pub tests-found : (t u : ℕ) → ((m : ℕ) → r.count < 2 ^ m → t ≤ m + 2) → ((m : ℕ) → s.count < 2 ^ m → u ≤ m + 2) →
      (m : ℕ) → count < 2 ^ m → t + u ≤ m + 10
  tests-found t u d e = tests-both count t u (rw f at d) (rw g at e)

  module _ (a n : ℕ) where
    first-hit : Hit ws r a n → (b : ℕ) × (b < count) × Meets ws b a n
    first-hit h = let i : Hit ws (first_run (length ws) count) a n = rw f at h in (0 + i.0, omega (arith, i.1), i.2)

    second-hit : Hit ws s a n → (b : ℕ) × (b < count) × Meets ws b a n
    second-hit h = let i : Hit ws (second_run (length ws) count) a n = rw g at h in (merged_of count + i.0, omega (arith, i.1), i.2)

    both-missed : Missed ws r a n → Missed ws s a n → (b : ℕ) → b < count → Apart ws b a n
    both-missed h i b l = ⊎_elim in-first in-second (below_or_not b (merged_of count))
      where
        in-first : b < merged_of count → Apart ws b a n
        in-first q =
            let j : Missed ws (first_run (length ws) count) a n = rw f at h in
            let e : 0 + b ≡ b = omega arith in
            rw e at (j b q)

        in-second : merged_of count ≤ b → Apart ws b a n
        in-second q =
            let j : Missed ws (second_run (length ws) count) a n = rw g at i in
            let e : merged_of count + (b - merged_of count) ≡ b = omega arith in
            rw e at (j (b - merged_of count) (omega arith))

    -- a block of the first run is met; or none of these is, and the second run decides
    pub first-decides : (met : Bool) → met ≡ true → Hit ws r a n → Decided ws count a n met
    first-decides met t h = record { meets = λ _. first-hit h; apart = λ v. never_met (sym v ∙ t) }

    pub second-decides : (met two : Bool) → met ≡ two → Missed ws r a n → (two ≡ true → Hit ws s a n) → (two ≡ false → Missed ws s a n) →
        Decided ws count a n met
    second-decides met two e h i j = record { meets = λ t. second-hit (i (sym e ∙ t)); apart = λ t. both-missed h (j (sym e ∙ t)) }

    pub found_in : (met : Bool) (p q t u : ℕ) → Placed ws r a p → Placed ws s a q → Decided ws count a n met →
        ((m : ℕ) → r.count < 2 ^ m → t ≤ m + 2) → ((m : ℕ) → s.count < 2 ^ m → u ≤ m + 2) →
        FoundIn ws count a n record { met = met; first = p; second = q; tests = t + u }
    found_in met p q t u h i d j k = record {
      first = rw f at h;
      second = rw g at i;
      meets = d.meets;
      apart = d.apart;
      tests = tests-found t u j k;
    }
