use Rattle.block_index.proofs.index.second_run.Goals as goal

pub returns : goal.returns
returns c = rw c.places_for.ensures
