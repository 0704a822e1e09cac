-- Laws of adding a block to the index: its number and its place are put into the second run, which is merged into the first when it is full.
use Prim.Native.Nat.{ℕ, ◌+◌, ◌-◌, ◌*◌, ◌^◌, ◌≤◌, ◌<◌}
use mathlib.Core.List.{List}
use mathlib.Core.Logic.{inl, ⊎_elim}
use mathlib.Core.Path.{◌≡◌, refl, ◌∙◌}
use native.Mathlib.Nat.{zero-add}
use native.Mathlib.Omega.{arith}
use lib.ListN.{length, get_or}
use Rattle.ordering.specs.Order.{Inserted, words_from}
use Rattle.ordering.specs.Merge.{TwoRuns, Held, MergedIn}
use Rattle.ordering.specs.declared.Runs.{Runs}
use Rattle.ordering.proofs.OrderLaws.{below_or_not}
use Rattle.ordering.proofs.RunLaws.{runs-first, runs-more, runs-merged, runs_same}
use Rattle.block_index.specs.Index.{Before, Apart, start_of, behind_of, first_from, second_from, places_from, merged_of, recent_of}
use Rattle.block_index.specs.Search.{Addable, Extended}
use Rattle.block_index.proofs.MetLaws.{met-apart}
use Rattle.block_index.proofs.Overlaps.{overlaps-hit}
use Rattle.block_index.proofs.IndexLaws.{behind-same, before_same}

-- a block apart from the n bytes at a that ends behind a begins behind them
pub apart-behind : (ws : List ℕ) (b a n : ℕ) → Apart ws b a n → a < behind_of ws b → a + n ≤ start_of ws b
apart-behind ws b a n h l =
    ⊎_elim
    (λ (q : start_of ws b < a + n). absurd (met-apart ws b a n (overlaps-hit 0 _ _ a n q l) h))
    (λ (q : a + n ≤ start_of ws b). q)
    (below_or_not (start_of ws b) (a + n))

-- the two runs in so many words, as they are merged when the second is full
abbrev pub full_runs : ℕ → ℕ → Runs
full_runs words count = record { first = first_from words; count = count - recent_of count; second = second_from words; places = places_from words; added = 64 }

abbrev RunsIn : List ℕ → ℕ → ℕ → ℕ → Type 0
RunsIn ws words m s = TwoRuns (Before ws) (words_from ws (first_from words)) (words_from ws (second_from words)) (words_from ws (places_from words)) m s

module _ (ws : List ℕ) (count first second : ℕ) (d : Addable ws count first second) where
  abbrev firsts : ℕ → ℕ
  firsts = words_from ws (first_from (length ws))

  abbrev seconds : ℕ → ℕ
  seconds k = merged_of count + words_from ws (second_from (length ws)) k

  abbrev places : ℕ → ℕ
  places = words_from ws (places_from (length ws))

  -- the new block's number, counted from the second run's first
  new : merged_of count + recent_of count ≡ count
  new = omega arith

  -- the blocks before its places end before it, and those behind begin behind it
  second-before : (k : ℕ) → k < second → Before ws (seconds k) (merged_of count + recent_of count)
  second-before k h = rw new (d.second_place.before k h)

  second-behind : (k : ℕ) → second ≤ k → k < recent_of count → Before ws (merged_of count + recent_of count) (seconds k)
  second-behind k h l =
      rw new
      (apart-behind ws (seconds k) _ _ (d.apart (seconds k) (omega (arith, d.indexed.runs.second.within k l))) (d.second_place.after k h l))

  first-before : (j : ℕ) → j < first → Before ws (firsts j) (merged_of count + recent_of count)
  first-before j h = rw new (simp zero-add at (d.first_place.before j h))

  first-behind : (j : ℕ) → first ≤ j → j < merged_of count → Before ws (merged_of count + recent_of count) (firsts j)
  first-behind j h l =
      rw new
      (apart-behind ws (firsts j) _ _ (d.apart (firsts j) (omega (arith, d.indexed.runs.first.within j l)))
      (simp zero-add at (d.first_place.after j h l)))

  -- its place in the first run is not before those of the blocks that stand before it in the second, nor behind those of the others
  place-before : (k : ℕ) → k < second → places k ≤ first
  place-before k h =
      ⊎_elim
      (λ (q : first < places k).
      let l : k < recent_of count = omega (arith, d.second_place.most) in
      let u : first < merged_of count = omega (arith, d.indexed.runs.most k l) in
      let ends = simp zero-add at (d.first_place.after first (omega arith) u) in
      absurd (omega (arith, d.indexed.runs.before first k l q, d.second_place.before k h)))
      (λ (q : places k ≤ first). q)
      (below_or_not first (places k))

  place-behind : (k : ℕ) → second ≤ k → k < recent_of count → first ≤ places k
  place-behind k h l =
      ⊎_elim
      (λ (q : places k < first).
      let u : places k < merged_of count = omega (arith, d.first_place.most) in
      let ends = simp zero-add at (d.first_place.before (places k) q) in
      absurd (omega (arith, d.indexed.runs.behind (places k) k l (omega arith) u, d.second_place.after k h l)))
      (λ (q : first ≤ places k). q)
      (below_or_not (places k) first)

  -- its number is put into the second run, and then its place
  module _ (ws₁ ws₂ : List ℕ) (i : Inserted ws (second_from (length ws)) (recent_of count) second (recent_of count) ws₁)
      (j : Inserted ws₁ (places_from (length ws)) (recent_of count) second first ws₂) where
    long : length ws₂ ≡ length ws
    long = j.long ∙ i.long

    kept : (k : ℕ) → k < second_from (length ws) → get_or ws₂ k 0 ≡ get_or ws k 0
    kept k h = j.below k (omega arith) ∙ i.below k (omega arith)

    kept-blocks : (k : ℕ) → k < 4 * (count + 1) → get_or ws₂ k 0 ≡ get_or ws k 0
    kept-blocks k h = kept k (omega (arith, d.room))

    number : (k : ℕ) → k < 64 → words_from ws₂ (second_from (length ws)) k ≡ words_from ws₁ (second_from (length ws)) k
    number k h = j.below (second_from (length ws) + k) (omega arith)

    place : (k : ℕ) → words_from ws₁ (places_from (length ws)) k ≡ places k
    place k = i.rest (places_from (length ws) + k) (omega arith)

    more : TwoRuns (Before ws) firsts (words_from ws₂ (second_from (length ws))) (words_from ws₂ (places_from (length ws)))
        (merged_of count) (recent_of count + 1)
    more =
        runs-more _ _ _ _ _ _ _ _ second first d.indexed.runs d.second_place.most d.first_place.most
        (λ k h. number k (omega (arith, d.second_place.most)) ∙ i.below (second_from (length ws) + k) (omega arith))
        (number second (omega (arith, d.second_place.most)) ∙ i.here)
        (λ k l h. number (k + 1) (omega arith) ∙ i.above k l h)
        (λ k h. j.below (places_from (length ws) + k) (omega arith) ∙ place k)
        j.here
        (λ k l h. j.above k l h ∙ place k)
        second-before
        second-behind
        first-before
        first-behind
        place-before
        place-behind

    two : RunsIn ws₂ (length ws) (merged_of count) (recent_of count + 1)
    two =
        runs_same (Before ws) (Before ws₂) _ _ _ _ _ _ _ _ more
        (λ k h. kept (first_from (length ws) + k) (omega (arith, d.room))) (λ k h. refl) (λ k h. refl)
        (λ b c h l. before_same ws ws₂ (count + 1) kept-blocks b c (omega arith) (omega arith))

    small : (b : ℕ) → b < count + 1 → behind_of ws₂ b < 2 ^ 64
    small b h =
        rw (behind-same ws ws₂ (count + 1) kept-blocks b h)
        (⊎_elim (λ (l : b < count). d.indexed.small b l) (λ (l : count ≤ b). let e : b ≡ count = omega arith in rw e d.small) (below_or_not b count))

    -- the second run is not full yet
    pub added-last : (recent_of count + 1 ≡ 64 → ⊥) → Extended ws count ws₂
    added-last h = record {
      indexed = record { fits = rw long (omega (arith, d.room)); small = small; runs = rw (long, same, one_more) two };
      kept = λ k l. kept k (omega arith);
      long = long;
    }
      where
        apart : recent_of count + 1 < 64
        apart =
            ⊎_elim
            (λ (q : recent_of count + 1 < 64). q)
            (λ (q : 64 ≤ recent_of count + 1). absurd (h (omega arith)))
            (below_or_not (recent_of count + 1) 64)

        same : merged_of (count + 1) ≡ merged_of count
        same = omega (arith, apart)

        one_more : recent_of (count + 1) ≡ recent_of count + 1
        one_more = omega (arith, apart)

    -- or it is, and is merged into the first
    module _ (full : recent_of count + 1 ≡ 64) where
      both : RunsIn ws₂ (length ws) (count - recent_of count) 64
      both = let e : count - recent_of count ≡ merged_of count = omega arith in rw e (rw full at two)

      pub full-held : Held ws₂ (full_runs (length ws) count)
      full-held = record {
        apart = omega (arith, d.room);
        between = omega arith;
        inside = rw long (omega (arith, d.room));
        within = both.second.within;
        most = both.most;
        rising = both.rising;
      }

      module _ (ws₃ : List ℕ) (x : MergedIn ws₂ (full_runs (length ws) count) ws₃) where
        merged-blocks : (k : ℕ) → k < first_from (length ws) → get_or ws₃ k 0 ≡ get_or ws₂ k 0
        merged-blocks k h = x.rest k (inl h)

        merged-low : (k : ℕ) → k < 4 * (count + 1) → get_or ws₃ k 0 ≡ get_or ws₂ k 0
        merged-low k h = merged-blocks k (omega (arith, d.room))

        one : RunsIn ws₃ (length ws) (count - recent_of count + 64) 0
        one =
            runs_same (Before ws₂) (Before ws₃) _ _ _ _ _ _ _ _ (runs-first _ _ _ _ _ (runs-merged _ _ _ _ _ _ _ both x.merged))
            (λ k h. refl) (λ k h. refl) (λ k h. refl)
            (λ b c h l. before_same ws₂ ws₃ (count + 1) merged-low b c (omega arith) (omega arith))

        all-long : length ws₃ ≡ length ws
        all-long = x.long ∙ long

        pub added-merged : Extended ws count ws₃
        added-merged = record {
          indexed = record {
            fits = rw all-long (omega (arith, d.room));
            small = λ b h. rw (behind-same ws₂ ws₃ (count + 1) merged-low b h) (small b h);
            runs = rw (all-long, grown, none_left) one;
          };
          kept = λ k h. merged-blocks k h ∙ kept k (omega arith);
          long = all-long;
        }
          where
            grown : merged_of (count + 1) ≡ count - recent_of count + 64
            grown = omega arith

            none_left : recent_of (count + 1) ≡ 0
            none_left = omega arith
