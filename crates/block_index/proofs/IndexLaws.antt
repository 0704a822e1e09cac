-- Laws of the index: of no block, and of words that keep what it reads.
use Prim.Native.Nat.{ℕ, ◌+◌, ◌*◌, ◌≤◌, ◌<◌}
use mathlib.Core.List.{List}
use mathlib.Core.Path.{◌≡◌}
use native.Mathlib.Omega.{arith}
use lib.ListN.{length, get_or}
use Rattle.ordering.specs.Order.{words_from}
use Rattle.ordering.proofs.RunLaws.{runs_none, runs_same}
use Rattle.block_index.specs.Index.{Before, Indexed, start_of, behind_of, first_from}
use Rattle.block_index.specs.Search.{Placed, first_run, second_run, number_at}
use Rattle.block_index.specs.declared.search.Run.{Run}

-- no block is in order
pub indexed-none : (ws : List ℕ) → Indexed ws 0
indexed-none ws = record { fits = omega arith; small = λ b h. absurd (omega arith); runs = runs_none _ _ _ _ }

-- The words of n blocks stay, and so do their addresses, their ends and their order.
module _ (ws ws' : List ℕ) (n : ℕ) (low : (k : ℕ) → k < 4 * n → get_or ws' k 0 ≡ get_or ws k 0) where
  pub start-same : (b : ℕ) → b < n → start_of ws' b ≡ start_of ws b
  start-same b h = low (4 * b) (omega arith)

  pub behind-same : (b : ℕ) → b < n → behind_of ws' b ≡ behind_of ws b
  behind-same b h = rw (low (4 * b) (omega arith), low (4 * b + 1) (omega arith))

  pub before_same : (i j : ℕ) → i < n → j < n → Before ws i j → Before ws' i j
  before_same i j h l e = omega (arith, start-same j l, behind-same i h)

  -- a run of some of them, whose numbers stay too
  placed-run : (r : Run) (a place : ℕ) → ((k : ℕ) → k < r.count → number_at ws r k < n) →
      ((k : ℕ) → k < r.count → words_from ws' r.base k ≡ words_from ws r.base k) → Placed ws r a place → Placed ws' r a place
  placed-run r a place within words p = record {
    most = p.most;
    before = λ k h. rw (ends k (omega (arith, p.most))) (p.before k h);
    after = λ k h l. rw (ends k l) (p.after k h l);
  }
    where
      ends : (k : ℕ) → k < r.count → behind_of ws' (number_at ws' r k) ≡ behind_of ws (number_at ws r k)
      ends k h = rw (words k h) (behind-same (number_at ws r k) (within k h))

-- the words of the blocks and those of their order stay
module _ (ws ws' : List ℕ) (n : ℕ) (x : Indexed ws n) (long : length ws' ≡ length ws)
    (low : (k : ℕ) → k < 4 * n → get_or ws' k 0 ≡ get_or ws k 0) (high : (k : ℕ) → first_from (length ws) ≤ k → get_or ws' k 0 ≡ get_or ws k 0) where
  pub indexed-same : Indexed ws' n
  indexed-same = record {
    fits = rw long x.fits;
    small = λ b h. rw (behind-same ws ws' n low b h) (x.small b h);
    runs =
        rw long
        (runs_same _ (Before ws') _ _ _ _ _ _ _ _ x.runs (λ k h. high _ (omega arith)) (λ k h. high _ (omega arith)) (λ k h. high _ (omega arith))
        (λ i j h l. before_same ws ws' n low i j (omega arith) (omega arith)));
  }

  pub placed-first-same : (a place : ℕ) → Placed ws (first_run (length ws) n) a place → Placed ws' (first_run (length ws') n) a place
  placed-first-same a place p =
      rw long
      (placed-run ws ws' n low (first_run (length ws) n) a place (λ k h. omega (arith, x.runs.first.within k h)) (λ k h. high _ (omega arith)) p)

  pub placed-second-same : (a place : ℕ) → Placed ws (second_run (length ws) n) a place → Placed ws' (second_run (length ws') n) a place
  placed-second-same a place p =
      rw long
      (placed-run ws ws' n low (second_run (length ws) n) a place (λ k h. omega (arith, x.runs.second.within k h)) (λ k h. high _ (omega arith)) p)
