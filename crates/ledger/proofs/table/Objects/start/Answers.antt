-- The root is added to a table of no object.
use native.Mathlib.Omega.{arith}
use Rattle.ledger.proofs.TableLaws.{start-addable, start-law}
use Rattle.ledger.proofs.table.Objects.start.Goals as goal

pub add-requires : goal.add-requires
add-requires c = start-addable _ _ _ c.requires

pub bounds-self-0 : goal.bounds-self-0
bounds-self-0 c = omega arith

pub returns-clause-started : goal.returns-clause-started
returns-clause-started c = rw c.add.ensures.same_counts (start-law _ _ _ c.requires _ c.add.ensures.added)
