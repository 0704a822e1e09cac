-- Item 9 of document 02, "Whose block is it": "Show that an object's blocks are exactly those its walk enters, and that no byte has two owners." What is
-- said of the replies, of the library and of C.
use Rattle.std.specs.Prelude.{ℕ, ◌/◌, ◌≤◌, List, ◌≡◌, length}
use Rattle.format.specs.Bytes.{u64, to_words}
use Rattle.format.specs.Blocks.{Block, room_of}
use Rattle.format.specs.declared.Refusal.{Refusal}
use Rattle.format.specs.Walk.{met_of, done}
use Rattle.format.specs.Dataset.{Dataset}
use Rattle.format.specs.Describe.{describe_run}
use Rattle.format.specs.Answers.{audit, lookup, describe, mend}
use Rattle.format.specs.Front.{c_audit, c_lookup, c_describe, c_mend}
use Rattle.links.specs.Fault.{AuditFault}
use Rattle.links.specs.FirstMet.{FirstMet}
use Rattle.links.specs.Owners.{Owned, OneOwner}
use Rattle.links.specs.Fours.{ListHolds}
use Rattle.found.specs.PathFault.{LookupFault, DescribeFault}
use Rattle.found.specs.DescribeOwned.{DescribeOwned}
use Rattle.claims.specs.Audits.{AuditFound}
use Rattle.claims.specs.CNumbers.{audit_least, describe_least}

-- of an audit that is done: whose the blocks of its list are
pub record AuditOwners (im : List ℕ) (lent : ℕ) : Type 0 where
  pub found : AuditFound im lent
  pub owned : Owned im (room_of lent) found.superblock found.ledger found.blocks
  pub one_owner : OneOwner found.blocks
  -- the block count is in fours
  pub count : (audit im lent).block_count ≡ length found.blocks
  pub list : ListHolds found.blocks (audit im lent).list

-- of a description that is done: "all ones the superblock; description writes 0 for the rest"
pub record DescribeOwners (im path : List ℕ) (lent : ℕ) : Type 0 where
  pub dataset : Dataset
  pub blocks : List Block
  pub described : describe_run im path lent ≡ done dataset blocks
  pub owned : DescribeOwned im path lent dataset blocks
  pub one_owner : OneOwner blocks
  -- the block count is in fours
  pub count : (describe im path lent).block_count ≡ length blocks
  pub list : ListHolds blocks (describe im path lent).list

-- "Answer 6 now also returns the address of the first block entered that it meets": the fault F that is met gives that block's address
abbrev pub MetBy : (Refusal → List Block → Type 0) → ℕ → Type 0
MetBy F met = (r : Refusal) × (bs : List Block) × F r bs × FirstMet r bs × (met_of r ≡ met)

pub record Owners : Type 0 where
  pub audits : (im : List ℕ) (lent : ℕ) → (audit im lent).number ≡ 0 → AuditOwners im lent
  pub descriptions : (im path : List ℕ) (lent : ℕ) → (describe im path lent).number ≡ 0 → DescribeOwners im path lent
  -- the mender leaves the audit's list, with its count
  pub mends : (im : List ℕ) (lent log_lent n : ℕ) → (mend im lent log_lent n).number ≡ 0 →
      ((mend im lent log_lent n).list ≡ (audit im lent).list) × ((mend im lent log_lent n).block_count ≡ (audit im lent).block_count)
  -- the block met
  pub audits_met : (im : List ℕ) (lent : ℕ) → (audit im lent).number ≡ 6 → MetBy (AuditFault im lent) (audit im lent).met
  pub lookups_met : (im path : List ℕ) (lent : ℕ) → (lookup im path lent).number ≡ 6 → MetBy (LookupFault im path lent) (lookup im path lent).met
  pub descriptions_met : (im path : List ℕ) (lent : ℕ) → (describe im path lent).number ≡ 6 → MetBy (DescribeFault im path lent) (describe im path lent).met
  pub mends_met : (im : List ℕ) (lent log_lent n : ℕ) → (mend im lent log_lent n).number ≡ 6 → MetBy (AuditFault im lent) (mend im lent log_lent n).met
  -- "in C the first word": the block met, as a caller reads it
  pub c_audits_met : (im : List ℕ) (l r : ℕ) → (c_audit im l r).number ≡ 6 → u64 (c_audit im l r).reply 0 ≡ (audit im (l / 8)).met
  pub c_lookups_met : (im path : List ℕ) (l r : ℕ) → (c_lookup im path l r).number ≡ 6 → u64 (c_lookup im path l r).reply 0 ≡ (lookup im path (l / 8)).met
  pub c_descriptions_met : (im path : List ℕ) (l r : ℕ) → (c_describe im path l r).number ≡ 6 →
      u64 (c_describe im path l r).reply 0 ≡ (describe im path (l / 8)).met
  pub c_mends_met : (im : List ℕ) (l g r n : ℕ) → (c_mend im l g r n).number ≡ 6 → u64 (c_mend im l g r n).reply 0 ≡ (mend im (l / 8) (g / 8) n).met
  -- in C, with room for the reply: the words that a caller reads from the bytes of the list are the library's
  pub c_audits : (im : List ℕ) (l r : ℕ) → audit_least ≤ r / 8 → to_words (l / 8) (c_audit im l r).list ≡ (audit im (l / 8)).list
  pub c_descriptions : (im path : List ℕ) (l r : ℕ) → describe_least ≤ r / 8 → to_words (l / 8) (c_describe im path l r).list ≡ (describe im path (l / 8)).list
  pub c_mends : (im : List ℕ) (l g r n : ℕ) → 3 ≤ r / 8 → to_words (l / 8) (c_mend im l g r n).list ≡ (mend im (l / 8) (g / 8) n).list
