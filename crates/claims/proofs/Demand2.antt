-- Demand 2, of the replies and of the room.
use Rattle.claims.specs.Demand2.{Demand2}
use Rattle.claims.proofs.Audits.{audit-replies}
use Rattle.claims.proofs.Replies.{lookup-replies, describe-replies, c-replies}
use Rattle.claims.proofs.Causes.{all-causes}
use Rattle.claims.proofs.SameReply.{same-reply, same-or-full}
use Rattle.claims.proofs.EnoughRoom.{enough-room}

pub demand-two : Demand2
demand-two = record {
  audits = audit-replies;
  lookups = lookup-replies;
  descriptions = describe-replies;
  in_c = c-replies;
  causes = all-causes;
  more = same-reply;
  less = same-or-full;
  enough = enough-room;
}
