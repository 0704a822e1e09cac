-- A long input has the first line alone; an audited one has what the audit's contract determines. Room for a line of each object is enough.
use mathlib.Core.Path.{refl}
use native.Mathlib.Omega.{arith}
use borrow.Author.Rules.{rules}
use Rattle.format.specs.Limits.{command_blocks}
use Rattle.output.specs.Text.{output_most}
use Rattle.command.proofs.ReportLaws.{printed-long, printed-refused, printed-audit}
use Rattle.command.proofs.report.Goals as goal

pub put_first-requires : goal.put_first-requires
unfolding output_most
put_first-requires c = search rules

pub returns-then-limits-input : goal.returns-then-limits-input
returns-then-limits-input c = rw c.put_first.ensures (printed-long c.args.input.now c.args.out.now (omega arith) (omega arith))

pub put_first-requires-in-Ok : goal.put_first-requires-in-Ok
unfolding output_most
put_first-requires-in-Ok c = search rules

pub put_first-requires-in-Err : goal.put_first-requires-in-Err
unfolding output_most
put_first-requires-in-Err c = search rules

pub put_objects-requires : goal.put_objects-requires
unfolding output_most
put_objects-requires c =
    let m = c.in-Ok.ensures.placed.fits in
    record { objects_le_objects_most = m; objects_in_bounds = omega (arith, m) }

pub returns-in-Err : goal.returns-in-Err
unfolding command_blocks
returns-in-Err c =
    rw c.put_first-in-Err.ensures
    (printed-refused c.args.input.now c.args.out.now _ _ refl (omega arith) (omega arith) c.in-Err.refusal _ c.number_of.ensures c.in-Err.ensures)

pub returns-in-Ok : goal.returns-in-Ok
unfolding command_blocks
returns-in-Ok c =
    rw (c.put_objects.ensures.value, c.put_objects.ensures.out_after, c.put_first-in-Ok.ensures)
    (printed-audit c.args.input.now c.args.out.now _ _ refl (omega arith) (omega arith) c.in-Ok.reply c.in-Ok.ensures)
