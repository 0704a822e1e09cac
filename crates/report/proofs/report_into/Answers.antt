-- Opened or not, the laws of Replied.antt.
use mathlib.Core.Path.{ap}
use native.Mathlib.Omega.{arith}
use Rattle.report.specs.Report.{Fields}
use Rattle.report.proofs.Replied.{unopened-is, opened-is, all-filled, same-long}
use Rattle.report.proofs.report_into.Goals as goal

pub report_opened-requires : goal.report_opened-requires
report_opened-requires c = record {
  bounded = c.in-Ok.ensures.fields_bounded;
  lists = c.requires;
  filled = all-filled c.fill_undefined.new.list _ c.fill_undefined.ensures c.fill_undefined.auto.list;
}

pub returns-in-Err : goal.returns-in-Err
returns-in-Err c =
    let none = ap (λ (f : Fields). f.block_count) c.unopened.ensures in
    record {
      block_count_bound = omega (arith, none);
      by_index = λ lent room.
          unopened-is c.args.image.now c.in-Err.answer _ c.in-Err.ensures.result_value c.unopened.ensures lent _ _ _ _;
    }

pub returns-in-Ok : goal.returns-in-Ok
returns-in-Ok c =
    let o = c.report_opened.ensures in
    let p = same-long _ _ _ _ _ _ _ _ _ c.fill_undefined.auto.list (o.block_count_bound, o.by_index) in
    record {
      block_count_bound = p.0;
      by_index = λ lent room. opened-is c.args.image.now _ lent c.in-Ok.superblock _ _ _ _ _ c.in-Ok.ensures.result_value room (p.1 lent);
    }
