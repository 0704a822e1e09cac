-- "description writes 0 for the rest": whose the blocks of a description are.
use Rattle.std.specs.Prelude.{ℕ, List, [], ◌∷◌, ◌⊎◌, ◌≡◌}
use Rattle.format.specs.Blocks.{Block, block_of, superblock_kind, header_kind, no_object, block_words}
use Rattle.format.specs.Walk.{kind_number, continuation_block, data_block}
use Rattle.format.specs.Dataset.{Dataset}
use Rattle.links.specs.Owners.{owned_by, AllKinds}
use Rattle.found.specs.Found.{IsDescribed}

-- the words of blocks that all have the number 0
unfoldable pub zero_numbered : List Block → List ℕ
zero_numbered [] = []
zero_numbered (b ∷ bs) = b.at ∷ b.size ∷ b.kind ∷ 0 ∷ zero_numbered bs

-- the kinds of blocks behind the header of a dataset
abbrev pub ContinuationOrData : ℕ → Type 0
ContinuationOrData v = (v ≡ kind_number continuation_block) ⊎ (v ≡ kind_number data_block)

-- the blocks bs of a description that is done: the superblock, then others, all with the number 0
pub record DescribeOwned (im path : List ℕ) (lent : ℕ) (d : Dataset) (bs : List Block) : Type 0 where
  -- the superblock by which the image is walked, and the address that the path leads to
  pub described : IsDescribed im path lent d bs
  pub others : List Block
  pub all : bs ≡ block_of superblock_kind 0 described.superblock.size ∷ others
  -- the others are the header at that address, then its continuations and the dataset's data
  pub size : ℕ
  pub behind : List Block
  pub header : others ≡ block_of header_kind described.address size ∷ behind
  pub kinds : AllKinds ContinuationOrData behind
  -- their numbers
  pub first : owned_by no_object bs ≡ block_of superblock_kind 0 described.superblock.size ∷ []
  pub rest : owned_by 0 bs ≡ others
  -- in words
  pub words : block_words no_object bs ≡ 0 ∷ described.superblock.size ∷ superblock_kind ∷ no_object ∷ zero_numbered others
