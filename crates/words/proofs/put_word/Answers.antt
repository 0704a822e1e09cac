-- The eight bytes are those of the word.
use Rattle.std.proofs.Common.{◌∙◌, arith}
use Rattle.walk.proofs.Overwrite.{put-bytes}
use Rattle.words.proofs.put_word.Goals as goal

pub returns : goal.returns
returns c =
    let a = c.args in
    put-bytes 8 a.out.now a.at _ a.w _ c.requires (omega arith) (c.copy_from_slice.ensures.after ∙ c.to_le_bytes.ensures)
