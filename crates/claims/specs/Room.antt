-- Demand 2, of the room: "Room is the lesser of 1,024 and the whole pairs lent", "and blocks to 8,192"; "Room and document 01's pairs are counted in
-- fours." 13, "no room for the next block", is the one answer that depends on it.
use Rattle.std.specs.Prelude.{ℕ, ◌≤◌, List, ◌⊎◌, ◌≡◌, replicate}
use Rattle.format.specs.Blocks.{room_of}
use Rattle.format.specs.Audit.{audit_run}
use Rattle.format.specs.Describe.{describe_run}
use Rattle.format.specs.Answers.{AuditReply, LookupReply, DescribeReply, audit_end, audit, lookup, describe_end, describe}
use Rattle.found.specs.Accepted.{OneOf}
use Rattle.claims.specs.Numbers.{found_numbers, described_numbers}

-- the replies that a run with so many words gives where it is lent other words: what differs is the length of the list
abbrev pub audit_lent : List ℕ → ℕ → ℕ → AuditReply
audit_lent im lent words = audit_end im words (audit_run im lent)

abbrev pub lookup_lent : List ℕ → List ℕ → ℕ → ℕ → LookupReply
lookup_lent im path lent words =
    let r = lookup im path lent in
    record { number = r.number; met = r.met; kind = r.kind; address = r.address; block_count = 0; list = replicate words 0 }

abbrev pub describe_lent : List ℕ → List ℕ → ℕ → ℕ → DescribeReply
describe_lent im path lent words = describe_end words (describe_run im path lent)

-- with no less room the reply is the same, unless it was 13
pub record MoreRoom : Type 0 where
  pub audits : (im : List ℕ) (lent more : ℕ) → room_of lent ≤ room_of more → ((audit im lent).number ≡ 13 → ⊥) → audit im more ≡ audit_lent im lent more
  pub lookups : (im path : List ℕ) (lent more : ℕ) → room_of lent ≤ room_of more → ((lookup im path lent).number ≡ 13 → ⊥) →
      lookup im path more ≡ lookup_lent im path lent more
  pub descriptions : (im path : List ℕ) (lent more : ℕ) → room_of lent ≤ room_of more → ((describe im path lent).number ≡ 13 → ⊥) →
      describe im path more ≡ describe_lent im path lent more

-- with less room the reply is the same, or it is 13
pub record LessRoom : Type 0 where
  pub audits : (im : List ℕ) (lent less : ℕ) → room_of less ≤ room_of lent → ((audit im less).number ≡ 13) ⊎ (audit im less ≡ audit_lent im lent less)
  pub lookups : (im path : List ℕ) (lent less : ℕ) → room_of less ≤ room_of lent →
      ((lookup im path less).number ≡ 13) ⊎ (lookup im path less ≡ lookup_lent im path lent less)
  pub descriptions : (im path : List ℕ) (lent less : ℕ) → room_of less ≤ room_of lent →
      ((describe im path less).number ≡ 13) ⊎ (describe im path less ≡ describe_lent im path lent less)

-- on an image that the audit accepts, room for the audit's blocks is enough for every lookup and description: none gives 13
pub record EnoughRoom (im : List ℕ) (lent : ℕ) : Type 0 where
  -- "The block count in the answer is the number of pairs entered"; "document 01's pairs are counted in fours"
  pub room : (audit im lent).block_count ≤ room_of lent
  pub lookups : (path : List ℕ) (words : ℕ) → (audit im lent).block_count ≤ room_of words → OneOf found_numbers (lookup im path words).number
  pub descriptions : (path : List ℕ) (words : ℕ) → (audit im lent).block_count ≤ room_of words → OneOf described_numbers (describe im path words).number
