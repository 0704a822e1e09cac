-- By the order the test of one block decides for all before it or behind it.
use Rattle.std.proofs.Common.{rules}
use Rattle.block_index.proofs.SearchLaws.{placed_by}
use Rattle.block_index.proofs.search.halve.Goals as goal

pub returns : goal.returns
returns c = record {
  placed = placed_by _ _ _ c.requires _ c.halve.ensures.most
      (λ k h. let p = c.halve.ensures.last k h in search rules)
      (λ h. let p = c.halve.ensures.next h in search rules);
  by_index = c.halve.ensures.tests;
}
