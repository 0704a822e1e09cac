-- The name is compared.
use Rattle.visit.specs.Visit.{entry_of}
use Rattle.visit.proofs.VisitLaws.{compared}
use Rattle.visit.proofs.WantedVisitor.visit.Goals as goal

pub returns-clause-visited : goal.returns-clause-visited
returns-clause-visited c = compared (entry_of c.args.entry) _ _ _ c.compare-self.ensures
