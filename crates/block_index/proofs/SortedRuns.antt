-- Each run of an index is in order by itself.
use Prim.Native.Nat.{ℕ, ◌+◌}
use mathlib.Core.List.{List}
use native.Mathlib.Nat.{zero-add}
use native.Mathlib.Omega.{arith}
use lib.ListN.{length}
use Rattle.ordering.specs.Order.{Ordering, words_from}
use Rattle.block_index.specs.Index.{Before, Indexed, merged_of, first_from}
use Rattle.block_index.specs.Search.{Sorted, first_run, second_run}

pub first-sorted : (ws : List ℕ) (n : ℕ) → Indexed ws n → Sorted ws (first_run (length ws) n)
first-sorted ws n x = record {
  inside = omega (arith, x.fits);
  listed = omega (arith, x.fits);
  small = λ b h. rw zero-add (x.small b (omega arith));
  ordering = from_zero;
}
  where
    -- the first run counts from block 0
    from_zero : Ordering (λ i j. Before ws (0 + i) (0 + j)) (words_from ws (first_from (length ws))) (merged_of n)
    from_zero = record {
      within = x.runs.first.within;
      onto = x.runs.first.onto;
      rising = λ j k l h. simp zero-add (x.runs.first.rising j k l h);
    }

pub second-sorted : (ws : List ℕ) (n : ℕ) → Indexed ws n → Sorted ws (second_run (length ws) n)
second-sorted ws n x = record {
  inside = omega (arith, x.fits);
  listed = omega (arith, x.fits);
  small = λ b h. x.small (merged_of n + b) (omega arith);
  ordering = x.runs.second;
}
