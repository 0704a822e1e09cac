-- The numbers in C, by the test of the reply's length.
use Prim.Native.Nat.{◌/◌}
use borrow.Author.Tests.{le-leb, lt-leb}
use Rattle.format.specs.Front.{c_audit, c_lookup, c_describe, c_mend, c_undo}
use Rattle.claims.specs.CNumbers.{audit_least, describe_least, CNumbers}

pub c-numbers : CNumbers
unfolding c_audit c_lookup c_describe c_mend c_undo
c-numbers = record {
  audits = λ im l r h. rw (le-leb audit_least (r / 8) h);
  lookups = λ im path l r h. rw (le-leb 3 (r / 8) h);
  descriptions = λ im path l r h. rw (le-leb describe_least (r / 8) h);
  mends = λ im l g r n h. rw (le-leb 3 (r / 8) h);
  undos = λ im log r e n h. rw (le-leb 1 (r / 8) h);
  short_audits = λ im l r h. rw (lt-leb audit_least (r / 8) h);
  short_lookups = λ im path l r h. rw (lt-leb 3 (r / 8) h);
  short_descriptions = λ im path l r h. rw (lt-leb describe_least (r / 8) h);
  short_mends = λ im l g r n h. rw (lt-leb 3 (r / 8) h);
  short_undos = λ im log r e n h. rw (lt-leb 1 (r / 8) h);
}
