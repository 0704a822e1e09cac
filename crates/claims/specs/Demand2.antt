-- Demand 2: "Lookup, description and audit answer exactly as document 01 and the HDF5 File Format Specification 3.0 define. A name is found exactly when the
-- group's sound index holds it and the header it links to is sound; absent only from a sound index. An object's true count is the number of hard
-- links and sharings that reach it, the file's own root entry included." What is said of the replies.
use Rattle.std.specs.Prelude.{ℕ, List, ◌≡◌}
use Rattle.format.specs.Answers.{audit}
use Rattle.claims.specs.Audits.{AuditReplies}
use Rattle.claims.specs.Replies.{LookupReplies, DescribeReplies, CReplies}
use Rattle.claims.specs.Causes.{Causes}
use Rattle.claims.specs.Room.{MoreRoom, LessRoom, EnoughRoom}

pub record Demand2 : Type 0 where
  pub audits : AuditReplies
  pub lookups : LookupReplies
  pub descriptions : DescribeReplies
  pub in_c : CReplies
  pub causes : Causes
  pub more : MoreRoom
  pub less : LessRoom
  pub enough : (im : List ℕ) (lent : ℕ) → (audit im lent).number ≡ 0 → EnoughRoom im lent
