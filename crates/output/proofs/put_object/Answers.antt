-- Four parts, one behind the other.
use native.Mathlib.Omega.{arith}
use lib.ListN.{length-set}
use Rattle.output.proofs.LineLaws.{object-written}
use Rattle.output.proofs.put_object.Goals as goal

pub shape_of-out : goal.shape_of-out
shape_of-out c = simp length-set (omega arith)

pub returns : goal.returns
returns c =
    let second = c in
    let first = second in
    let a = first.args in
    rw (c.put_hex-3.ensures, second.put_hex-2.ensures, first.put_hex.ensures)
    (object-written a.out.now a.at a.address a.stored a.links)
