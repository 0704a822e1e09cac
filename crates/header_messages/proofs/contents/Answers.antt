-- Version, messages, continuations and total, in the order of the walk.
use mathlib.Core.List.{[]}
use Rattle.format.specs.Limits.{blocks_most}
use Rattle.std.proofs.lemmas.Result.{err_from_is_err_and}
use Rattle.header_messages.proofs.HeaderSteps.{version-wrong, block-stopped, first-waits, follow-stopped, total-wrong, total_right}
use native.Mathlib.Omega.{arith}
use Rattle.header_messages.proofs.contents.Goals as goal

pub returns-then-image-at-ne1-clause-gathered_is : goal.returns-then-image-at-ne1-clause-gathered_is
returns-then-image-at-ne1-clause-gathered_is g c = version-wrong _ _ _ _ _ _ _ _ _ c.requires.lending.lent c.requires.size_in_bounds c.if-image-at-ne1.true

pub scan_block-requires-clause-room : goal.scan_block-requires-clause-room
scan_block-requires-clause-room g c = g.met.V.MessageVisitor.counts.fits _ _ _ _ _ (omega arith) c.requires.counting

pub returns-in_err-scan_block-clause-gathered_is : goal.returns-in_err-scan_block-clause-gathered_is
returns-in_err-scan_block-clause-gathered_is g c =
    let p = err_from_is_err_and c.from_residual.result c.from_residual.ensures.1 in
    rw (p.1, p.2)
    (block-stopped _ _ _ _ _ _ _ _ _ c.requires.lending.lent c.requires.size_in_bounds c.if-image-at-ne1.false _ c.in_err-scan_block.ensures.scanned)

pub follow-requires-clause-counting : goal.follow-requires-clause-counting
follow-requires-clause-counting g c =
    g.met.V.MessageVisitor.counts.spare _ _ _ _ _ _ _ (omega arith) c.requires.counting c.in_ok-scan_block.ensures.counted

pub follow-requires-clause-ready : goal.follow-requires-clause-ready
follow-requires-clause-ready g c =
    let f = c.in_ok-scan_block.ensures.scanned in
    (_, first-waits _ _ _ _ _ _ _ _ c.requires.count_nonzero c.requires.size_in_bounds f.1)

pub follow-requires-clause-has_tally : goal.follow-requires-clause-has_tally
follow-requires-clause-has_tally g c = (_, c.in_ok-scan_block.ensures.scanned.2 [] (c.empty-tally.ensures _))

pub returns-in_err-follow-clause-gathered_is : goal.returns-in_err-follow-clause-gathered_is
returns-in_err-follow-clause-gathered_is g c =
    let p = err_from_is_err_and c.from_residual-in_err-follow.result c.from_residual-in_err-follow.ensures.1 in
    let f = c.in_ok-scan_block.ensures.scanned in
    let w = first-waits _ _ _ _ _ _ _ _ c.requires.count_nonzero c.requires.size_in_bounds f.1 in
    let h = c.in_err-follow.ensures.by_index blocks_most _ _ (omega (arith, c.requires.count_nonzero)) w (f.2 [] (c.empty-tally.ensures _)) in
    rw (p.1, p.2) (follow-stopped _ _ _ _ _ _ _ _ _ c.requires.lending.lent c.requires.size_in_bounds c.if-image-at-ne1.false _ f.1 _ _ h)

pub returns-then-u16_at-tally-clause-gathered_is : goal.returns-then-u16_at-tally-clause-gathered_is
returns-then-u16_at-tally-clause-gathered_is g c =
    let f = c.in_ok-scan_block.ensures.scanned in
    let w = first-waits _ _ _ _ _ _ _ _ c.requires.count_nonzero c.requires.size_in_bounds f.1 in
    let h = c.in_ok-follow.ensures.by_index blocks_most _ _ (omega (arith, c.requires.count_nonzero)) w (f.2 [] (c.empty-tally.ensures _)) in
    total-wrong _ _ _ _ _ _ _ _ _ c.requires.lending.lent c.requires.size_in_bounds c.if-image-at-ne1.false _ f.1 _ _ _ c.follow.ensures.kept.long h.1 _ h.2 _
    c.u16_at.ensures c.if-u16_at-tally.true

pub returns-clause-gathered_is : goal.returns-clause-gathered_is
returns-clause-gathered_is g c =
    let f = c.in_ok-scan_block.ensures.scanned in
    let w = first-waits _ _ _ _ _ _ _ _ c.requires.count_nonzero c.requires.size_in_bounds f.1 in
    let h = c.in_ok-follow.ensures.by_index blocks_most _ _ (omega (arith, c.requires.count_nonzero)) w (f.2 [] (c.empty-tally.ensures _)) in (
      h.0,
      total_right _ _ _ _ _ _ _ _ _ c.requires.lending.lent c.requires.size_in_bounds c.if-image-at-ne1.false _ f.1 _ _ _ c.follow.ensures.kept.long h.1 _
          h.2 _ c.u16_at.ensures c.if-u16_at-tally.false,
      h.2,
    )
