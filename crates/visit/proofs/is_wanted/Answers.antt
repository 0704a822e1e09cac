-- Names of different lengths differ, so do names with different last bytes; else all bytes decide.
use Rattle.order.proofs.Comparing.{same-lengths, same_at}
use native.Mathlib.Omega.{arith}
use Rattle.visit.proofs.is_wanted.Goals as goal

pub returns-then-n-wanted : goal.returns-then-n-wanted
returns-then-n-wanted c = let a = c.args in same-lengths a.name.now a.wanted.now (λ e. omega arith)

pub returns-then-name-n : goal.returns-then-name-n
returns-then-name-n c = same_at _ _ _ c.if-name-n.true
