-- Three parts, one behind the other.
use native.Mathlib.Omega.{arith}
use lib.ListN.{length-set}
use Rattle.output.proofs.LineLaws.{first-written}
use Rattle.output.proofs.put_first.Goals as goal

pub shape_of-out : goal.shape_of-out
shape_of-out c = simp length-set (omega arith)

pub returns : goal.returns
returns c =
    let a = c.args in
    rw (c.put_hex-2.ensures, c.put_hex.ensures)
    (first-written a.out.now a.answer a.objects)
