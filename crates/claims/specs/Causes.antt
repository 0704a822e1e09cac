-- Demand 2, of the refusals: "first fault met". A reply's number other than 0 is the answer of the one fault that its run comes to.
use Rattle.std.specs.Prelude.{ℕ, List, ◌↔◌, ◌≡◌}
use Rattle.format.specs.Blocks.{Block}
use Rattle.format.specs.declared.Refusal.{Refusal}
use Rattle.format.specs.Walk.{answer_of}
use Rattle.format.specs.Answers.{audit, lookup, describe}
use Rattle.links.specs.Fault.{AuditFault}
use Rattle.found.specs.PathFault.{LookupFault, DescribeFault}

-- there is a fault with this number
abbrev pub Caused : (Refusal → List Block → Type 0) → ℕ → Type 0
Caused F n = (r : Refusal) × (bs : List Block) × F r bs × (answer_of r ≡ n)

-- two faults are one: the same refusal at the same place, behind the same blocks
abbrev pub AtMostOne : (Refusal → List Block → Type 0) → Type 0
AtMostOne F = (r r' : Refusal) (bs bs' : List Block) → F r bs → F r' bs' → (r ≡ r') × (bs ≡ bs')

-- the number is n, which isn't 0, exactly if there is such a fault, and there is at most one
pub record Causes : Type 0 where
  pub audits : (im : List ℕ) (lent n : ℕ) → (n ≡ 0 → ⊥) → ((audit im lent).number ≡ n) ↔ Caused (AuditFault im lent) n
  pub lookups : (im path : List ℕ) (lent n : ℕ) → (n ≡ 0 → ⊥) → ((lookup im path lent).number ≡ n) ↔ Caused (LookupFault im path lent) n
  pub descriptions : (im path : List ℕ) (lent n : ℕ) → (n ≡ 0 → ⊥) → ((describe im path lent).number ≡ n) ↔ Caused (DescribeFault im path lent) n
  pub audits_one : (im : List ℕ) (lent : ℕ) → AtMostOne (AuditFault im lent)
  pub lookups_one : (im path : List ℕ) (lent : ℕ) → AtMostOne (LookupFault im path lent)
  pub descriptions_one : (im path : List ℕ) (lent : ℕ) → AtMostOne (DescribeFault im path lent)
