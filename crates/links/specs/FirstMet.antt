-- "Answer 6 now also returns the address of the first block entered that it meets .., the one exception to demand 1's zeros."
use Rattle.std.specs.Prelude.{ℕ, true, false, List, ◌∷◌, ◌++◌, ◌≡◌}
use Rattle.format.specs.Blocks.{Block, overlaps, overlaps_any}
use Rattle.format.specs.declared.Refusal.{Refusal}
use Rattle.format.specs.declared.Refusal.TheVariants.{NotEntered}
use Rattle.format.specs.Walk.{answer_of, met_of}

-- the refusal, behind the blocks bs, is of a block that shares a byte with one of them and with none entered before that one, whose address it gives
pub record FirstMet (r : Refusal) (bs : List Block) : Type 0 where
  -- the block refused
  pub kind : ℕ
  pub at : ℕ
  pub size : ℕ
  -- the block met, between those entered before it and after it
  pub before : List Block
  pub block : Block
  pub after : List Block
  pub all : bs ≡ before ++ (block ∷ after)
  pub refusal : r ≡ NotEntered 6 kind at size block.at
  pub meets : overlaps block at size ≡ true
  pub first : overlaps_any before at size ≡ false

-- with 6 a refusal gives the first block met, with any other number 0
pub record GivesMet (r : Refusal) (bs : List Block) : Type 0 where
  pub six : answer_of r ≡ 6 → FirstMet r bs
  pub other : (answer_of r ≡ 6 → ⊥) → met_of r ≡ 0
