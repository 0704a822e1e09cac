-- The audit's replies: what is found.
use Prim.Native.Nat.{ℕ, ◌+◌, ◌*◌, ◌/◌, ◌≤◌}
use mathlib.Core.List.{List}
use mathlib.Core.Path.{◌≡◌, ap}
use borrow.Author.Tests.{le-leb}
use Rattle.format.specs.Limits.{objects_most}
use Rattle.format.specs.Answers.{audit_end, audit}
use Rattle.format.specs.Front.{c_audit_end, c_audit}
use Rattle.links.proofs.AuditAnswers.{audit-zero}
use Rattle.links.proofs.AuditSound.{audit-opened, audit-sound, audit-blocks}
use Rattle.claims.proofs.AuditWords.{audit-words}
use Rattle.claims.specs.Audits.{AuditFound, AuditReplies}

pub audit-found : (im : List ℕ) (lent : ℕ) → (audit im lent).number ≡ 0 → AuditFound im lent
unfolding audit
audit-found im lent z =
    let d = audit-zero im lent z in
    let o = audit-opened im lent d.0 d.1 d.2 in
    let b = audit-blocks im lent o.0 d.0 d.1 o.1 d.2 in
    record {
      superblock = o.0;
      ledger = d.0;
      blocks = d.1;
      opens = o.1;
      walked = d.2;
      reply = ap (audit_end im lent) d.2;
      sound = audit-sound im lent o.0 d.0 d.1 o.1 d.2;
      apart = b.0;
      inside = b.1;
      room = b.2;
    }

-- with room for the reply, the reply in C is the library's
in-c : (im : List ℕ) (l r : ℕ) → 2 + 3 * objects_most ≤ r / 8 → c_audit im l r ≡ c_audit_end l r (audit im (l / 8))
unfolding c_audit
in-c im l r h = rw (le-leb (2 + 3 * objects_most) (r / 8) h)

pub audit-replies : AuditReplies
audit-replies = record { found = audit-found; in_c = in-c; words_in_c = audit-words }
