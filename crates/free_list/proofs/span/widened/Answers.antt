-- The lesser start and the greater end.
use Rattle.free_list.proofs.SpanLaws.{spanned-more}
use Rattle.free_list.proofs.span.widened.Goals as goal

pub returns : goal.returns
returns c =
    let a = c.args in
    λ bs s.
    rw (c.min.ensures, c.max.ensures) (spanned-more a.span.low a.span.high a.off a.size bs s)
