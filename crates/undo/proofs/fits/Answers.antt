-- The field's place first, then the old count, then the new.
use Rattle.undo.proofs.UndoLaws.{outside, holds-old, holds-new}
use native.Mathlib.Omega.{arith}
use Rattle.undo.proofs.fits.Goals as goal

pub returns-then-image-field : goal.returns-then-image-field
returns-then-image-field c = outside c.args.image.now c.args.field c.args.word (omega arith)

pub returns-then-count-word : goal.returns-then-count-word
returns-then-count-word c =
    let a = c.args in
    holds-old a.image.now a.field a.word (omega arith) c.u32_at-count.ensures c.if-count-word.true

pub returns : goal.returns
returns c =
    let a = c.args in
    holds-new a.image.now a.field a.word (omega arith) c.u32_at-count.ensures c.if-count-word.false
