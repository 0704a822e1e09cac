-- A refused mend leaves the image; one that is done is taken back with its own log and entries.
use lib.ListN.{length}
use Rattle.restored.proofs.Restored.{image-kept, entries-there, image-back}
use Rattle.restored.proofs.mend_and_undo.Goals as goal

pub returns-then-number-ne0 : goal.returns-then-number-ne0
returns-then-number-ne0 c =
    let a = c.args in
    let k = image-kept a.image.now (length a.blocks.now) (length a.log.now) (length a.reply.now) a.limit (λ k. (c.slice_known-1.given k).fits) _ _ _ _ _
    c.mend_bytes-number.ensures c.if-number-ne0.true in
    record { image_unchanged = k.0; restored = k.1 }

pub u64_at-entries-requires : goal.u64_at-entries-requires
u64_at-entries-requires c =
    let a = c.args in
    entries-there a.image.now (length a.blocks.now) (length a.log.now) (length a.reply.now) a.limit (λ k. (c.slice_known-1.given k).fits) _ _ _ _ _
    c.mend_bytes-number.ensures c.if-number-ne0.false c.mend_bytes-number.auto.reply

pub returns : goal.returns
returns c =
    let a = c.args in
    let k = image-back a.image.now (length a.blocks.now) (length a.log.now) (length a.reply.now) a.limit (λ k. (c.slice_known-1.given k).fits) _ _ _ _ _
    c.mend_bytes-number.ensures c.if-number-ne0.false c.mend_bytes-number.auto.reply c.u64_at-entries.result c.u64_at-entries.ensures _ _ _
    c.undo_bytes.ensures in
    record { image_unchanged = k.0; restored = k.1 }
