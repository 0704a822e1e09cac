-- Behind eight bytes or fewer there are none; else the number of those behind the first eight is read.
use Rattle.order.proofs.FirstLaws.{second_none, second-some}
use native.Mathlib.Omega.{arith}
use Rattle.order.proofs.second_number.Goals as goal

pub returns-then-size-le8 : goal.returns-then-size-le8
returns-then-size-le8 c = let a = c.args in second_none a.s.now a.at a.size (omega arith)

pub returns : goal.returns
returns c =
    let a = c.args in
    second-some a.s.now a.at a.size (omega arith) c.first_number.ensures
