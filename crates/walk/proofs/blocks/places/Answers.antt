-- The places that the index leaves.
use Rattle.walk.proofs.BlockList.{places_is}
use Rattle.walk.proofs.blocks.places.Goals as goal

pub returns : goal.returns
returns c = rw (places_is, ← c.places_for.ensures) c.at_most.ensures
