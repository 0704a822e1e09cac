-- An audit with room for so many blocks, in C.
use Rattle.std.specs.Prelude.{ℕ, ◌*◌, List, ◌≡◌}
use Rattle.format.specs.Answers.{audit}
use Rattle.format.specs.Front.{CReply, c_audit_end}

-- the number returned and the bytes left in slices of l and r bytes are those of the definition with the words of so many blocks lent
abbrev pub AuditsWith : List ℕ → ℕ → ℕ → ℕ → CReply → Type 0
AuditsWith im l r room x = x ≡ c_audit_end l r (audit im (4 * room))
