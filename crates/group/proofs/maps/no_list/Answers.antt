-- The head decides.
use borrow.Author.Tests.{ne_eqb}
use Rattle.format.specs.Bytes.{undefined_address}
use Rattle.group.proofs.maps.no_list.Goals as goal

pub returns-else-head-eq1 : goal.returns-else-head-eq1
unfolding undefined_address
returns-else-head-eq1 c = rw (ne_eqb c.args.head 1 c.if-head-eq1.false)
