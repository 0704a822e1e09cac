use Rattle.block_index.proofs.index.first_run.Goals as goal

pub returns : goal.returns
returns c = rw c.places_for.ensures
