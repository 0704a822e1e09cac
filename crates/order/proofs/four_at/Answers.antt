-- The 4 bytes from the place on are those of the number.
use Rattle.std.proofs.Common.{◌∙◌, arith}
use Rattle.order.proofs.BigEndianLaws.{number-of-slice}
use Rattle.order.proofs.four_at.Goals as goal

pub returns : goal.returns
returns c =
    let chunk = rw c.unwrap.ensures at c.try_into.ensures.1 in
    number-of-slice 3 c.args.s.now c.unwrap.result c.args.at _ (omega arith) chunk.same (omega arith) (c.from.ensures ∙ c.from_be_bytes.ensures)
