-- The buffer is longer than the most input that is answered for.
use Rattle.format.specs.Limits.{input_most}
use borrow.Author.Rules.{rules}
use Rattle.report_command.proofs.run.Goals as goal

pub answer-requires : goal.answer-requires
unfolding input_most
answer-requires g c = search rules
