-- By what is done: an entry passed by, an object discovered or one too many.
use native.Mathlib.Omega.{arith}
use Rattle.visit.specs.Visit.{entry_of}
use Rattle.visit.proofs.VisitLaws.{passed-by, discovered, one-link}
use Rattle.visit.proofs.ObjectsVisitor.visit.Goals as goal

pub returns-then-symbolic-clause-visited : goal.returns-then-symbolic-clause-visited
returns-then-symbolic-clause-visited c = passed-by (entry_of c.args.entry) _ _ _ (omega arith)

pub returns-clause-visited : goal.returns-clause-visited
returns-clause-visited c = discovered (entry_of c.args.entry) _ _ _ _ _ _ _ (omega arith) c.discover.ensures.discovered

pub returns-clause-links_bound : goal.returns-clause-links_bound
returns-clause-links_bound c = one-link (entry_of c.args.entry) _ _ _ _ _ _ _ c.discover.ensures.discovered c.discover.ensures.full
