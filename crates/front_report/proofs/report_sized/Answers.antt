-- The table is of zeros, and long enough.
use Rattle.audit.proofs.ReplyLaws.{empty-table}
use Rattle.front_report.proofs.report_sized.Goals as goal

pub report_with-requires-clause-empty_table : goal.report_with-requires-clause-empty_table
report_with-requires-clause-empty_table g c = empty-table g.row.TABLE c.requires.table
