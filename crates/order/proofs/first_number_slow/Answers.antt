-- The number of the first k bytes.
use mathlib.Core.Path.{◌≡◌, sym}
use native.Mathlib.Numerals.{add-one}
use Rattle.format.specs.Bytes.{part}
use Rattle.order.proofs.BigEndianLaws.{bytes-part}
use Rattle.order.proofs.FirstLaws.{first-none, first_more, first_fits}
use native.Mathlib.Omega.{arith}
use Rattle.order.proofs.first_number_slow.Goals as goal

pub loop-k-init : goal.loop-k-init
loop-k-init c = (omega arith, sym (first-none _))

pub overflow_mul-x : goal.overflow_mul-x
overflow_mul-x c =
    let a = c.args in
    let bytes = bytes-part a.s.now a.at a.size (λ k. (c.type_inv.s k).fits) in
    omega (arith, c.loop-k.invariant.1, first_fits c.loop-k.k (part a.s.now a.at a.size) bytes (omega arith))

pub overflow_add-x : goal.overflow_add-x
overflow_add-x c =
    let a = c.args in
    let bytes = bytes-part a.s.now a.at a.size (λ k. (c.type_inv.s k).fits) in
    let fits = first_fits c.loop-k.k (part a.s.now a.at a.size) bytes (omega arith) in
    omega (arith, c.loop-k.invariant.1, fits, c.byte_or_zero.ensures.1)

pub loop-k-preserved : goal.loop-k-preserved
loop-k-preserved c =
    let a = c.args in
    (omega arith, rw add-one (omega (arith, c.loop-k.invariant.1, c.byte_or_zero.ensures.0, first_more c.loop-k.k (part a.s.now a.at a.size))))

pub returns : goal.returns
returns c =
    let k : c.loop-k.k ≡ 8 = omega arith in
    rw k at c.loop-k.invariant.1
