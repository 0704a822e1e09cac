-- The words spilled are those of the reply.
use Rattle.front_report.proofs.write_reply.Goals as goal

pub returns : goal.returns
returns c = c.spill.ensures
