-- The block met, of an audit that is refused.
use Prim.Native.Nat.{ℕ}
use mathlib.Core.List.{List, []}
use mathlib.Core.Logic.{⊎_elim}
use mathlib.Core.Path.{◌≡◌, refl}
use native.Mathlib.Omega.{arith}
use Rattle.format.specs.Blocks.{Block, room_of}
use Rattle.format.specs.declared.Refusal.{Refusal}
use Rattle.format.specs.Walk.{fault}
use Rattle.format.specs.Superblock.{Superblock, not_opened, open_image}
use Rattle.format.specs.Audit.{audit_walk}
use Rattle.links.specs.Fault.{AuditFault}
use Rattle.links.specs.FirstMet.{GivesMet}
use Rattle.links.proofs.Numbered.{Numbered}
use Rattle.links.proofs.NumberedAudit.{audit-numbered}
use Rattle.links.proofs.AuditAnswers.{not-opened-number}
use Rattle.links.proofs.FirstMet.{NotSix, fault-met}

-- a fault with another number gives no block
pub none-met : (n at : ℕ) (bs : List Block) → NotSix n → GivesMet (fault n at) bs
none-met n at bs h = record { six = λ e. absurd (h e); other = λ _. refl }

pub unopened-met : (im : List ℕ) (n : ℕ) → open_image im ≡ not_opened n → GivesMet (fault n 0) []
unopened-met im n e = none-met n 0 [] (λ six. omega (arith, six, (not-opened-number im n e).1))

audit-not-six : (s : Superblock) → Numbered NotSix (audit_walk s)
audit-not-six =
    audit-numbered NotSix (λ e. omega arith) (λ e. omega arith) (λ e. omega arith) (λ e. omega arith) (λ e. omega arith) (λ e. omega arith)
    (λ e. omega arith) (λ e. omega arith)

pub audit-met : (im : List ℕ) (lent : ℕ) (r : Refusal) (bs : List Block) → AuditFault im lent r bs → GivesMet r bs
audit-met im lent r bs =
    ⊎_elim
    (λ h.
    let none = unopened-met im h.0 h.1 in
    let same : r ≡ fault h.0 0 = h.2 in
    let blocks : bs ≡ [] = h.3 in
    rw (same, blocks) none)
    (λ h. fault-met im h.0.end_of_file (room_of lent) (audit-not-six h.0) h.2)
