-- Two bytes and one behind them.
use Rattle.walk.proofs.LittleEndian.{number-one, number-add}
use native.Mathlib.Omega.{arith}
use Rattle.datatype.proofs.class_bits.Goals as goal

pub overflow_mul-result : goal.overflow_mul-result
overflow_mul-result c = omega (arith, c.from.ensures, c.type_inv.body 3)

pub overflow_add-result : goal.overflow_add-result
overflow_add-result c = omega (arith, c.from.ensures, c.type_inv.body 3, c.u16_at-low.ensures.bound)

pub returns : goal.returns
returns c =
    let b = c.args.body.now in
    rw c.from.ensures
    (number-add 2 1 c.u16_at-low.ensures (number-one b 3 (omega arith) (c.type_inv.body 3).fits) (omega arith))
