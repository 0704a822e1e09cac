-- Item 3 of document 02, "Overlap test without the long scan": "compare a new block that meets none with at most 32 earlier ones, counted in a test; the
-- verdict stays the same for every list of disjoint blocks and every new block."
use Rattle.std.specs.Prelude.{ℕ, ◌-◌, ◌^◌, ◌≤◌, List, [], ◌≡◌, length}
use Rattle.format.specs.Limits.{blocks_most}
use Rattle.format.specs.Blocks.{Block, overlaps_any, first_met}
use Rattle.laws.specs.Blocks.{Fresh, Inside}
use Rattle.block_index.specs.Index.{start_of}
use Rattle.block_index.specs.Search.{FoundIn, FirstMet}
use Rattle.block_index.specs.declared.index.Found.{Found}
use Rattle.walk.specs.Lent.{work_words}
use Rattle.disjoint_blocks.specs.Holds.{Holds}

pub record SameVerdict : Type 0 where
  -- every list of blocks that share no byte has a working list with its index, of the size that the calls lend
  pub held : (bs : List Block) → Fresh [] bs → Inside (2 ^ 64 - 1) bs → (room : ℕ) → length bs ≤ room →
      (ws : List ℕ) × (length ws ≡ work_words room) × Holds ws room bs
  -- whichever it is, what the search there finds of a new block is what the scan of all blocks finds
  pub verdict : (bs : List Block) (ws : List ℕ) (room a n : ℕ) (r : Found) → Holds ws room bs → FoundIn ws (length bs) a n r → r.met ≡ overlaps_any bs a n
  -- and the block that answer 6 names is the first that the scan meets
  pub first : (bs : List Block) (ws : List ℕ) (room a n b : ℕ) → Holds ws room bs → FirstMet ws (length bs) a n b → start_of ws b ≡ first_met bs a n
  -- it compares a new block with at most 32, with as many blocks as a call may enter
  pub few : (ws : List ℕ) (count a n : ℕ) (r : Found) → FoundIn ws count a n r → count ≤ blocks_most → r.tests ≤ 32
