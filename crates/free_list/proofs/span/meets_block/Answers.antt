-- Behind all blocks, before all of them, or by the map or the list.
use mathlib.Core.Path.{sym}
use Rattle.free_list.proofs.SpanLaws.{spanned-behind, spanned-before}
use native.Mathlib.Omega.{arith}
use Rattle.free_list.proofs.span.meets_block.Goals as goal

pub returns-then-span-off : goal.returns-then-span-off
returns-then-span-off c =
    let a = c.args in
    sym (spanned-behind a.span.low a.span.high a.off a.size (omega arith) _ c.requires.spanned)

pub returns-then-off-size : goal.returns-then-off-size
returns-then-off-size c =
    let a = c.args in
    sym (spanned-before a.span.low a.span.high a.off a.size (omega arith) _ c.requires.spanned)

pub returns : goal.returns
returns c = c.meets_free.ensures
