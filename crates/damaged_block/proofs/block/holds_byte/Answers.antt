-- A byte before the block, and one behind its start.
use Rattle.std.proofs.Common.{arith}
use Rattle.damaged_block.proofs.Holding.{holds-from, holds-before}
use Rattle.damaged_block.proofs.block.holds_byte.Goals as goal

pub returns-then-at-place : goal.returns-then-at-place
returns-then-at-place c = let a = c.args in holds-from a.at a.size a.place (omega arith)

pub returns-else-at-place : goal.returns-else-at-place
returns-else-at-place c = let a = c.args in holds-before a.at a.size a.place (omega arith)
