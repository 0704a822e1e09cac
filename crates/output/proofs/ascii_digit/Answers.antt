-- Either answer is the definition's.
use borrow.Author.Tests.{lt-ltb, le-ltb}
use Rattle.format.specs.Command.{digit}
use Rattle.output.proofs.ascii_digit.Goals as goal

pub returns-then-d-lt10 : goal.returns-then-d-lt10
unfolding digit
returns-then-d-lt10 c = simp (lt-ltb _ _ c.if-d-lt10.true)

pub returns : goal.returns
unfolding digit
returns c = simp (le-ltb _ _ c.if-d-lt10.false)
