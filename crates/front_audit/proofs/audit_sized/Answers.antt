-- The table is of zeros, and long enough.
use Rattle.audit.proofs.ReplyLaws.{empty-table}
use Rattle.front_audit.proofs.audit_sized.Goals as goal

pub audit_with-requires-clause-empty_table : goal.audit_with-requires-clause-empty_table
audit_with-requires-clause-empty_table g c = empty-table g.row.TABLE c.requires.table
