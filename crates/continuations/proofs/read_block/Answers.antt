-- The block is entered, then its messages are read.
use Rattle.format.specs.Walk.{continuation_block}
use Rattle.std.proofs.lemmas.Result.{err_from_is_err_and, on_ok_weaker}
use Rattle.continuations.proofs.BlockLaws.{counting-entered, not_entered, block_inside, block-scanned}
use native.Mathlib.Omega.{arith}
use Rattle.continuations.proofs.read_block.Goals as goal

pub returns-in_err-enter-clause-read : goal.returns-in_err-enter-clause-read
returns-in_err-enter-clause-read g c =
    let p = err_from_is_err_and c.from_residual.result c.from_residual.ensures.1 in
    rw (p.1, p.2) (not_entered _ _ _ _ _ _ _ _ _ c.requires.lending.lent _ c.enter.ensures.entered _ c.in_err-enter.ensures.value)

pub overflow_add-end : goal.overflow_add-end
overflow_add-end g c = omega (arith, block_inside _ _ continuation_block _ _ _ _ _ c.in_ok-enter.ensures.value, c.requires.lending.file)

pub scan_block-requires-clause-end_in_bounds : goal.scan_block-requires-clause-end_in_bounds
scan_block-requires-clause-end_in_bounds g c =
    omega (arith, block_inside _ _ continuation_block _ _ _ _ _ c.in_ok-enter.ensures.value, c.requires.lending.file)

pub scan_block-requires-clause-room : goal.scan_block-requires-clause-room
scan_block-requires-clause-room g c =
    let n = c.args.named in
    let counts = g.met.V.MessageVisitor.counts in
    counts.fits _ _ _ _ _ (omega arith)
    (counting-entered _ _ continuation_block n.address n.size _ _ _ c.requires.lending.lent c.enter.ensures.entered _ c.in_ok-enter.ensures.value
    counts _ 16 c.requires.counting)

pub returns-clause-read : goal.returns-clause-read
returns-clause-read g c =
    block-scanned _ _ _ _ _ _ _ _ _ c.requires.lending.lent c.requires.lending.file _ c.enter.ensures.entered _ c.in_ok-enter.ensures.value _ _
    c.scan_block.ensures.scanned

pub returns-clause-counting_on : goal.returns-clause-counting_on
returns-clause-counting_on g c =
    let n = c.args.named in
    let counts = g.met.V.MessageVisitor.counts in
    on_ok_weaker c.scan_block.result
    (λ kept.
    counts.spare _ _ _ _ _ _ _ (omega arith)
    (counting-entered _ _ continuation_block n.address n.size _ _ _ c.requires.lending.lent c.enter.ensures.entered _ c.in_ok-enter.ensures.value
    counts _ 16 c.requires.counting) kept)
    c.scan_block.ensures.counted
