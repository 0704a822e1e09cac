-- A working list that holds blocks with their index.
use Rattle.std.specs.Prelude.{ℕ, List, ◌≡◌, length}
use Rattle.format.specs.Blocks.{Block}
use Rattle.walk.specs.Lent.{blocks_of, Lent}

-- the list ws, with room for so many blocks, holds the blocks bs and their index
pub record Holds (ws : List ℕ) (room : ℕ) (bs : List Block) : Type 0 where
  pub lent : Lent ws (length bs) room
  pub blocks : blocks_of (length bs) ws ≡ bs
