-- The number of a reply is read off the outcome of its run: 0 where it is done, else the answer.
use Prim.Native.Nat.{ℕ}
use mathlib.Core.List.{List}
use mathlib.Core.Path.{◌≡◌, refl}
use Rattle.format.specs.Blocks.{Block}
use Rattle.format.specs.declared.Refusal.{Refusal}
use Rattle.format.specs.Walk.{answer_of, Outcome, done, refused}
use Rattle.format.specs.Ledger.{Linked}
use Rattle.format.specs.Audit.{audit_run}
use Rattle.format.specs.Lookup.{Located, lookup_run}
use Rattle.format.specs.Dataset.{Dataset}
use Rattle.format.specs.Describe.{describe_run}
use Rattle.format.specs.Answers.{audit_end, audit, lookup_end, lookup, describe_end, describe}
use Rattle.laws.proofs.MoreRoom.{HadRoom}
use Rattle.links.proofs.Numbered.{Only}

abbrev pub number_of : {A : Type 0} → Outcome A → ℕ
number_of (done a bs) = 0
number_of (refused r bs) = answer_of r

pub audit-reply-number : (im : List ℕ) (lent : ℕ) → (audit im lent).number ≡ number_of (audit_run im lent)
unfolding audit
audit-reply-number im lent = go (audit_run im lent)
  where
    go : (o : Outcome (List Linked)) → (audit_end im lent o).number ≡ number_of o
    go (done os bs) = refl
    go (refused r bs) = refl

pub lookup-reply-number : (im path : List ℕ) (lent : ℕ) → (lookup im path lent).number ≡ number_of (lookup_run im path lent)
unfolding lookup
lookup-reply-number im path lent = go (lookup_run im path lent)
  where
    go : (o : Outcome Located) → (lookup_end lent o).number ≡ number_of o
    go (done p bs) = refl
    go (refused r bs) = refl

pub describe-reply-number : (im path : List ℕ) (lent : ℕ) → (describe im path lent).number ≡ number_of (describe_run im path lent)
unfolding describe
describe-reply-number im path lent = go (describe_run im path lent)
  where
    go : (o : Outcome Dataset) → (describe_end lent o).number ≡ number_of o
    go (done d bs) = refl
    go (refused r bs) = refl

-- what holds of 0 and of the answers holds of the number
pub only-number : (N : ℕ → Type 0) → N 0 → {A : Type 0} (o : Outcome A) → Only N o → N (number_of o)
only-number N zero (done a bs) h = zero
only-number N zero (refused r bs) h = h

pub number-had-room : {A : Type 0} (o : Outcome A) → (number_of o ≡ 13 → ⊥) → HadRoom o
number-had-room (done a bs) h = tt
number-had-room (refused r bs) h = h

-- 0 is "done", where no answer is 0
pub number-done : {A : Type 0} (o : Outcome A) → Only (λ n. n ≡ 0 → ⊥) o → number_of o ≡ 0 → (a : A) × (bs : List Block) × (o ≡ done a bs)
number-done (done a bs) h z = (a, bs, refl)
number-done (refused r bs) h z = absurd (h z)

-- any other number is an answer's
pub number-refused : {A : Type 0} (n : ℕ) → (0 ≡ n → ⊥) → (o : Outcome A) → number_of o ≡ n →
    (r : Refusal) × (bs : List Block) × (o ≡ refused r bs) × (answer_of r ≡ n)
number-refused n h (done a bs) e = absurd (h e)
number-refused n h (refused r bs) e = (r, bs, refl, e)
