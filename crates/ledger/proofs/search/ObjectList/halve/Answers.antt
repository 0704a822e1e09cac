-- By the order the test of one object decides for all before it or behind it.
use Rattle.std.proofs.Common.{rules}
use Rattle.ledger.proofs.SearchLaws.{placed_by}
use Rattle.ledger.proofs.search.ObjectList.halve.Goals as goal

pub returns : goal.returns
returns c = record {
  placed = placed_by _ _ _ _ c.requires _ c.halve.ensures.most
      (λ k h. let p = c.halve.ensures.last k h in search rules)
      (λ h. let p = c.halve.ensures.next h in search rules);
  tests = c.halve.ensures.tests;
}
