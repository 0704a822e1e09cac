-- Two objects of an audit that is done have headers that share no byte.
use Prim.Native.Nat.{ℕ}
use mathlib.Core.Bool.{true}
use mathlib.Core.List.{List, []}
use mathlib.Core.Logic.{◌⊎◌, inl, inr, ⊎_elim}
use mathlib.Core.Path.{◌≡◌}
use native.Mathlib.Omega.{arith}
use Rattle.format.specs.Blocks.{Block}
use Rattle.format.specs.Walk.{header_block, done, run}
use Rattle.format.specs.Superblock.{Superblock}
use Rattle.format.specs.Ledger.{Linked, in_ledger}
use Rattle.format.specs.Audit.{audit_walk}
use Rattle.found.proofs.Whole.{whole}
use Rattle.found.specs.Beside.{Beside}
use Rattle.found.proofs.WholeApart.{blocks-beside}
use Rattle.found.proofs.AuditReads.{audit-reads}
use Rattle.found.proofs.LedgerSpared.{header_size, header-member}

-- of two headers of the ledger, the first 16 bytes are the same or share none
pub headers-apart : (im : List ℕ) (s : Superblock) (room : ℕ) (os : List Linked) (bs : List Block) → run im s.end_of_file room (audit_walk s) [] ≡ done os bs →
    (g h : ℕ) → in_ledger g os ≡ true → in_ledger h os ≡ true → (g ≡ h) ⊎ Beside g 16 h 16
headers-apart im s room os bs e g h i j =
    let total = whole im s.end_of_file (audit_walk s) in
    let reads = audit-reads im room s os bs e in
    ⊎_elim (λ same. inl (cc)) (⊎_elim (λ l. inr (inl (omega arith))) (λ l. inr (inr (omega arith))))
    (blocks-beside im s.end_of_file (audit_walk s) room [] os bs e header_block header_block g (header_size im g) h (header_size im h)
    (header-member im s room total g (reads g i)) (header-member im s room total h (reads h j)))
