-- Each test settles how the number is made.
use mathlib.Core.Path.{sym}
use Rattle.free_map.proofs.CellLaws.{joined-whole, joined-start, joined-both}
use native.Mathlib.Omega.{arith}
use Rattle.free_map.proofs.adding.joined.Goals as goal

pub returns-then-start-end-ge16 : goal.returns-then-start-end-ge16
returns-then-start-end-ge16 c = let a = c.args in sym (joined-whole a.start a.end (omega arith))

pub returns-then-end-eq0 : goal.returns-then-end-eq0
returns-then-end-eq0 c = let a = c.args in sym (joined-start a.start a.end (omega arith) (omega arith))

pub returns : goal.returns
returns c = let a = c.args in sym (joined-both a.start a.end (omega arith) (λ e. omega arith))
