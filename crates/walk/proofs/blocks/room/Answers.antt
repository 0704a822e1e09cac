-- Four words a block.
use Rattle.walk.proofs.BlockList.{room-is}
use Rattle.walk.proofs.blocks.room.Goals as goal

pub returns : goal.returns
returns c = rw room-is c.at_most.ensures
