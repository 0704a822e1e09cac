-- Opened or not, the laws of Replied.antt.
use mathlib.Core.Path.{ap}
use native.Mathlib.Omega.{arith}
use Rattle.report.specs.Report.{Fields}
use Rattle.report.proofs.Replied.{unopened-is, opened-is}
use Rattle.report.proofs.report_filled.Goals as goal

pub report_opened-requires : goal.report_opened-requires
report_opened-requires c = record { bounded = c.in-Ok.ensures.fields_bounded; lists = c.requires.lists; filled = c.requires.filled }

pub returns-in-Err : goal.returns-in-Err
returns-in-Err c =
    let none = ap (λ (f : Fields). f.block_count) c.unopened.ensures in
    record {
      block_count_bound = omega (arith, none);
      by_index = λ lent room.
          unopened-is c.args.image.now c.in-Err.answer _ c.in-Err.ensures.result_value c.unopened.ensures lent _ _ _ _;
    }

pub returns-in-Ok : goal.returns-in-Ok
returns-in-Ok c = record {
  block_count_bound = c.report_opened.ensures.block_count_bound;
  by_index = λ lent room.
      opened-is c.args.image.now _ lent c.in-Ok.superblock _ _ _ _ _ c.in-Ok.ensures.result_value room (c.report_opened.ensures.by_index lent);
}
