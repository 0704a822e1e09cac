-- Demand 2, of the audit's replies: "An object's true count is the number of hard links and sharings that reach it, the file's own root entry included."
use Rattle.std.specs.Prelude.{ℕ, ◌+◌, ◌*◌, ◌/◌, ◌≤◌, List, [], ◌∷◌, ◌≡◌, length}
use Rattle.format.specs.Limits.{objects_most}
use Rattle.format.specs.Bytes.{to_words, padded}
use Rattle.format.specs.Blocks.{Block, room_of}
use Rattle.format.specs.Walk.{done}
use Rattle.format.specs.Superblock.{Superblock, opened, open_image}
use Rattle.format.specs.Ledger.{Linked}
use Rattle.format.specs.Audit.{audit_run}
use Rattle.format.specs.Answers.{AuditReply, audit_end, audit}
use Rattle.format.specs.Front.{object_words, c_audit_end, c_audit}
use Rattle.laws.specs.Blocks.{Fresh, Inside}
use Rattle.links.specs.Sound.{Sound}
use Rattle.demand.specs.Bytes.{IsBytes}

-- of an audit that is done: its reply has the objects of a sound ledger, and blocks that share no byte
pub record AuditFound (im : List ℕ) (lent : ℕ) : Type 0 where
  pub superblock : Superblock
  pub ledger : List Linked
  pub blocks : List Block
  pub opens : open_image im ≡ opened superblock
  pub walked : audit_run im lent ≡ done ledger blocks
  pub reply : audit im lent ≡ audit_end im lent (done ledger blocks)
  pub sound : Sound im superblock ledger
  pub apart : Fresh [] blocks
  pub inside : Inside superblock.end_of_file blocks
  pub room : length blocks ≤ room_of lent

-- "block count, objects, then address, stored and true count of each"
abbrev pub audit_words : AuditReply → List ℕ
audit_words a = a.block_count ∷ length a.objects ∷ object_words a.objects

pub record AuditReplies : Type 0 where
  pub found : (im : List ℕ) (lent : ℕ) → (audit im lent).number ≡ 0 → AuditFound im lent
  -- in C, with slices of l and r bytes for the list and the reply, where r has room for the reply
  pub in_c : (im : List ℕ) (l r : ℕ) → 2 + 3 * objects_most ≤ r / 8 → c_audit im l r ≡ c_audit_end l r (audit im (l / 8))
  -- the words that a caller reads from the bytes of the reply to an image of bytes
  pub words_in_c : (im : List ℕ) (l r : ℕ) → IsBytes im → 2 + 3 * objects_most ≤ r / 8 → (audit im (l / 8)).number ≡ 0 →
      to_words (r / 8) (c_audit im l r).reply ≡ padded (r / 8) (audit_words (audit im (l / 8)))
