-- The block is entered before its contents are looked at.
use Prim.Native.Nat.{◌+◌, ◌<◌}
use mathlib.Core.Path.{◌≡◌}
use Rattle.format.specs.Walk.{header_block}
use Rattle.format.specs.Header.{pass_over}
use Rattle.std.proofs.lemmas.Result.{err_from_is_err_and}
use Rattle.continuations.proofs.BlockLaws.{block_inside, counting-entered}
use Rattle.continuations.specs.Continuations.{with_blocks}
use Rattle.header_messages.proofs.HeaderSteps.{header-outside, header_refused, header-entered, gathered-last}
use native.Mathlib.Omega.{arith}
use Rattle.header_messages.proofs.messages.Goals as goal

pub returns-then-end_of_file-lt16-clause-gathered_is : goal.returns-then-end_of_file-lt16-clause-gathered_is
returns-then-end_of_file-lt16-clause-gathered_is g c =
    let h : c.args.reading.bounds.end_of_file < c.args.at + 16 = grind arith in
    rw c.not_entered.ensures (header-outside _ _ _ _ _ _ _ _ c.requires.lending.lent h)

pub returns-in_err-enter-clause-gathered_is : goal.returns-in_err-enter-clause-gathered_is
returns-in_err-enter-clause-gathered_is g c =
    let p = err_from_is_err_and c.from_residual.result c.from_residual.ensures.1 in
    rw (p.1, p.2)
    (header_refused _ _ _ _ _ _ _ _ c.requires.lending.lent _ c.u32_at-size.ensures (omega (arith, c.requires.lending.file))
    (omega arith) _ c.enter.ensures.entered _
    c.in_err-enter.ensures.value)

pub contents-requires-clause-lending : goal.contents-requires-clause-lending
contents-requires-clause-lending g c =
    record {
      lent = (header-entered pass_over _ _ _ _ _ _ tt c.requires.lending.lent _ c.u32_at-size.ensures (omega (arith, c.requires.lending.file)) (omega arith) _
          c.enter.ensures.entered _ c.in_ok-enter.ensures.value).lent;
      most = c.requires.lending.most;
      file = c.requires.lending.file;
    }

pub contents-requires-clause-counting : goal.contents-requires-clause-counting
contents-requires-clause-counting g c =
    let size = c.u32_at-size.result in
    let whole : 0 + (16 + size) ≡ 16 + size = omega arith in
    rw whole at (counting-entered _ _ header_block _ _ _ _ _ c.requires.lending.lent c.enter.ensures.entered _ c.in_ok-enter.ensures.value
    g.met.V.MessageVisitor.counts _ 0 c.requires.counting)

pub contents-requires-clause-size_in_bounds : goal.contents-requires-clause-size_in_bounds
contents-requires-clause-size_in_bounds g c =
    omega (arith, block_inside _ _ header_block _ _ _ _ _ c.in_ok-enter.ensures.value, c.requires.lending.file)

pub returns-clause-gathered_is : goal.returns-clause-gathered_is
returns-clause-gathered_is g c =
    gathered-last _ c.args.reading _ _ _ _ _ _ _ _ (with_blocks c.contents.result _)
    (header-entered _ _ _ _ _ _ _ _ c.requires.lending.lent _ c.u32_at-size.ensures (omega (arith, c.requires.lending.file)) (omega arith) _
    c.enter.ensures.entered _ c.in_ok-enter.ensures.value)
    c.contents.ensures.gathered_is
