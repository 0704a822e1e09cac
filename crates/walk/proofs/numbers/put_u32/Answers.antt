-- The four bytes are those of the number.
use Rattle.std.proofs.Common.{◌∙◌, arith}
use Rattle.walk.proofs.Overwrite.{put-bytes}
use Rattle.walk.proofs.numbers.put_u32.Goals as goal

pub returns : goal.returns
returns c =
    let a = c.args in
    put-bytes 4 a.out.now a.at _ a.x _ c.requires (omega arith) (c.copy_from_slice.ensures.after ∙ c.to_le_bytes.ensures)
