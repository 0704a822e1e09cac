-- A reply has a number other than 0 exactly if its run comes to a fault with that number.
use Prim.Native.Nat.{ℕ}
use mathlib.Core.List.{List}
use mathlib.Core.Logic.{◌↔◌}
use mathlib.Core.Path.{◌≡◌, ap, sym, ◌∙◌}
use Rattle.format.specs.Blocks.{Block}
use Rattle.format.specs.declared.Refusal.{Refusal}
use Rattle.format.specs.Walk.{Outcome, refused}
use Rattle.format.specs.Audit.{audit_run}
use Rattle.format.specs.Lookup.{lookup_run}
use Rattle.format.specs.Describe.{describe_run}
use Rattle.format.specs.Answers.{audit, lookup, describe}
use Rattle.links.specs.Fault.{AuditFault}
use Rattle.links.proofs.RefusedFault.{audit-refused-fault, audit-fault-refused, audit-fault-one}
use Rattle.links.proofs.ReplyNumbers.{number_of, audit-reply-number, lookup-reply-number, describe-reply-number, number-refused}
use Rattle.found.specs.PathFault.{LookupFault, DescribeFault}
use Rattle.found.proofs.PathRefused.{lookup-refused-fault, lookup-fault-refused, lookup-fault-one}
use Rattle.found.proofs.PathRefused.{describe-refused-fault, describe-fault-refused, describe-fault-one}
use Rattle.claims.specs.Causes.{Caused, Causes}

-- an outcome that is refused exactly where there is a fault
number-caused : {A : Type 0} (o : Outcome A) (F : Refusal → List Block → Type 0) → ((r : Refusal) (bs : List Block) → o ≡ refused r bs → F r bs) →
    ((r : Refusal) (bs : List Block) → F r bs → o ≡ refused r bs) → (n : ℕ) → (n ≡ 0 → ⊥) → (number_of o ≡ n) ↔ Caused F n
number-caused {A} o F forth back n h = (given, met)
  where
    given : number_of o ≡ n → Caused F n
    given e = let r = number-refused n (λ z. h (sym z)) o e in (r.0, r.1, forth r.0 r.1 r.2, r.3)

    met : Caused F n → number_of o ≡ n
    met c = ap (λ (q : Outcome A). number_of q) (back c.0 c.1 c.2) ∙ c.3

audits : (im : List ℕ) (lent n : ℕ) → (n ≡ 0 → ⊥) → ((audit im lent).number ≡ n) ↔ Caused (AuditFault im lent) n
audits im lent n h =
    rw (audit-reply-number im lent)
    (number-caused (audit_run im lent) (AuditFault im lent) (audit-refused-fault im lent) (audit-fault-refused im lent) n h)

lookups : (im path : List ℕ) (lent n : ℕ) → (n ≡ 0 → ⊥) → ((lookup im path lent).number ≡ n) ↔ Caused (LookupFault im path lent) n
lookups im path lent n h =
    rw (lookup-reply-number im path lent)
    (number-caused (lookup_run im path lent) (LookupFault im path lent) (lookup-refused-fault im path lent) (lookup-fault-refused im path lent) n h)

descriptions : (im path : List ℕ) (lent n : ℕ) → (n ≡ 0 → ⊥) → ((describe im path lent).number ≡ n) ↔ Caused (DescribeFault im path lent) n
descriptions im path lent n h =
    rw (describe-reply-number im path lent)
    (number-caused (describe_run im path lent) (DescribeFault im path lent) (describe-refused-fault im path lent) (describe-fault-refused im path lent) n h)

pub all-causes : Causes
all-causes = record {
  audits = audits;
  lookups = lookups;
  descriptions = descriptions;
  audits_one = audit-fault-one;
  lookups_one = lookup-fault-one;
  descriptions_one = describe-fault-one;
}
