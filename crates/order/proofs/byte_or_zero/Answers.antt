-- The byte, if it is one of those asked for; behind them there is none.
use Prim.Native.Nat.{◌+◌}
use Rattle.order.proofs.FirstLaws.{part-byte, part_end}
use native.Mathlib.Omega.{arith}
use Rattle.order.proofs.byte_or_zero.Goals as goal

pub overflow_cast-result : goal.overflow_cast-result
overflow_cast-result c = let a = c.args in omega (arith, (c.type_inv.s (a.at + a.k)).fits)

pub returns-then-k-size : goal.returns-then-k-size
returns-then-k-size c =
    let a = c.args in
    (part-byte a.s.now a.at a.size a.k (omega arith), (c.type_inv.s (a.at + a.k)).fits)

pub returns : goal.returns
returns c =
    let a = c.args in
    (part_end a.s.now a.at a.size a.k (omega arith), omega arith)
