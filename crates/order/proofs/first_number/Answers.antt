-- Eight bytes, if the string has so many; else those that it has.
use Rattle.order.proofs.FirstLaws.{read_none, read-long, read_short}
use native.Mathlib.Omega.{arith}
use Rattle.order.proofs.first_number.Goals as goal

pub returns-then-size-eq0 : goal.returns-then-size-eq0
returns-then-size-eq0 c = let a = c.args in read_none a.s.now a.at a.size (omega arith)

pub returns-then-size-ge8 : goal.returns-then-size-ge8
returns-then-size-ge8 c =
    let a = c.args in
    read-long a.s.now a.at a.size c.eight_at-x.ensures (omega arith) (omega arith)

pub returns : goal.returns
returns c =
    let a = c.args in
    read_short a.s.now a.at a.size c.eight_at-x.ensures (omega arith) (omega arith) (λ k. (c.type_inv.s k).fits)
