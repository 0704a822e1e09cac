-- Every list of disjoint blocks has an index.
use Prim.Native.Nat.{ℕ, ◌-◌, ◌*◌, ◌^◌, ◌≤◌, ◌<◌}
use mathlib.Core.List.{List, []}
use mathlib.Core.Path.{◌≡◌, sym, ap, ◌∙◌}
use native.Mathlib.Omega.{arith}
use lib.ListN.{length, get_or, take}
use lib.Seq.{get_or-take}
use Rattle.format.specs.Blocks.{Block, no_object, block_words}
use Rattle.ordering.specs.Merge.{TwoRuns}
use Rattle.ordering.proofs.RunLaws.{runs_same}
use Rattle.block_index.specs.Index.{Before, Indexed, start_of, behind_of, places_for, merged_of, recent_of}
use Rattle.block_index.proofs.IndexLaws.{behind-same, before_same}
use Rattle.walk.specs.Lent.{work_words, blocks_of}
use Rattle.walk.proofs.BlockList.{words-blocks}
use Rattle.walk.proofs.Owners.{length-block_words}
use Rattle.laws.specs.Blocks.{Fresh, Inside}
use Rattle.disjoint_blocks.specs.Holds.{Holds}
use Rattle.disjoint_blocks.proofs.Numbers.{numbers_apart, numbers-inside}
use Rattle.disjoint_blocks.proofs.Sorted.{two-sorted}
use Rattle.disjoint_blocks.proofs.Listed.{working, length-working, working-words, working-first, working-second, working-places}

module _ (bs : List Block) (inside : Inside (2 ^ 64 - 1) bs) (room : ℕ) (few : length bs ≤ room) where
  abbrev words : List ℕ
  words = block_words no_object bs

  long : length words ≡ 4 * length bs
  long = length-block_words no_object bs

  fits : length words ≤ 4 * room
  fits = omega (arith, long)

  -- two runs of the blocks' numbers give a list that holds the blocks
  module _ (f g p : ℕ → ℕ) (t : TwoRuns (Before words) f g p (merged_of (length bs)) (recent_of (length bs))) where
    abbrev list : List ℕ
    list = working words room f g p

    length-list : length list ≡ work_words room
    length-list = length-working words room f g p fits

    places : places_for (length list) ≡ room
    places = omega (arith, length-list)

    begins : take (4 * length bs) list ≡ words
    begins = rw (← long) (working-words words room f g p fits)

    low : (k : ℕ) → k < 4 * length bs → get_or list k 0 ≡ get_or words k 0
    low k h = sym (get_or-take (4 * length bs) list k 0 h) ∙ ap (λ (ws : List ℕ). get_or ws k 0) begins

    indexed : Indexed list (length bs)
    indexed = record {
      fits = rw places few;
      small = λ b h. rw (behind-same words list (length bs) low b h) (omega (arith, numbers-inside no_object (2 ^ 64 - 1) bs inside b h));
      runs =
          rw places
          (runs_same (Before words) (Before list) f g p _ _ _ _ _ t
          (λ k h. working-first words room f g p fits k (omega arith))
          (λ k h. working-second words room f g p fits k (omega arith))
          (λ k h. working-places words room f g p fits k (omega arith))
          (λ i j h l. before_same words list (length bs) low i j (omega arith) (omega arith)));
    }

    read : blocks_of (length bs) list ≡ bs
    read = words-blocks no_object bs list begins

    holds : Holds list room bs
    holds = record { lent = record { counted = few; lent = omega (arith, places); numbered = rw read begins; indexed = indexed }; blocks = read }

runs : (bs : List Block) → Fresh [] bs →
    (f : ℕ → ℕ) × (g : ℕ → ℕ) × (p : ℕ → ℕ) × TwoRuns (Before (block_words no_object bs)) f g p (merged_of (length bs)) (recent_of (length bs))
runs bs fresh =
    two-sorted (start_of (block_words no_object bs)) (behind_of (block_words no_object bs)) (λ b. omega arith) (merged_of (length bs)) (recent_of (length bs))
    (λ i j h l. numbers_apart no_object bs fresh i j h (omega arith))

pub held : (bs : List Block) → Fresh [] bs → Inside (2 ^ 64 - 1) bs → (room : ℕ) → length bs ≤ room →
    (ws : List ℕ) × (length ws ≡ work_words room) × Holds ws room bs
held bs fresh inside room few =
    let r = runs bs fresh in (
      list bs inside room few r.0 r.1 r.2 r.3,
      length-list bs inside room few r.0 r.1 r.2 r.3,
      holds bs inside room few r.0 r.1 r.2 r.3,
    )
