-- With no less room every reply is the same, unless it was 13; so with less it is the same, or 13.
use Prim.Native.Nat.{ℕ, ◌≤◌}
use mathlib.Core.Bool.{Bool, true, false}
use mathlib.Core.List.{List}
use mathlib.Core.Logic.{◌⊎◌, inl, inr}
use mathlib.Core.Path.{◌≡◌, refl, ap, sym, ◌∙◌}
use borrow.Author.Tests.{eqb-true, eqb-false}
use lib.Dec.{eqb}
use lib.ListN.{replicate}
use Rattle.format.specs.Blocks.{room_of}
use Rattle.format.specs.Walk.{Outcome, done, refused}
use Rattle.format.specs.Audit.{audit_run}
use Rattle.format.specs.Lookup.{Located, lookup_run}
use Rattle.format.specs.Describe.{describe_run}
use Rattle.format.specs.Answers.{audit_end, audit, lookup_end, lookup, describe_end, describe}
use Rattle.laws.proofs.MoreRoom.{HadRoom}
use Rattle.laws.proofs.MoreRuns.{audit-run-more, lookup-run-more, describe-run-more}
use Rattle.links.proofs.ReplyNumbers.{audit-reply-number, lookup-reply-number, describe-reply-number, number-had-room}
use Rattle.claims.specs.Room.{audit_lent, lookup_lent, describe_lent, MoreRoom, LessRoom}

-- a reply that isn't 13 is of a run that had room
audit-had-room : (im : List ℕ) (lent : ℕ) → ((audit im lent).number ≡ 13 → ⊥) → HadRoom (audit_run im lent)
audit-had-room im lent h = number-had-room (audit_run im lent) (λ e. h (audit-reply-number im lent ∙ e))

lookup-had-room : (im path : List ℕ) (lent : ℕ) → ((lookup im path lent).number ≡ 13 → ⊥) → HadRoom (lookup_run im path lent)
lookup-had-room im path lent h = number-had-room (lookup_run im path lent) (λ e. h (lookup-reply-number im path lent ∙ e))

describe-had-room : (im path : List ℕ) (lent : ℕ) → ((describe im path lent).number ≡ 13 → ⊥) → HadRoom (describe_run im path lent)
describe-had-room im path lent h = number-had-room (describe_run im path lent) (λ e. h (describe-reply-number im path lent ∙ e))

-- a lookup's reply depends on the words lent in its list alone
lookup-words : (lent words : ℕ) (o : Outcome Located) →
    lookup_end words o ≡
    record {
      number = (lookup_end lent o).number;
      met = (lookup_end lent o).met;
      kind = (lookup_end lent o).kind;
      address = (lookup_end lent o).address;
      block_count = 0;
      list = replicate words 0;
    }
lookup-words lent words (done p bs) = refl
lookup-words lent words (refused r bs) = refl

module _ (im : List ℕ) (lent more : ℕ) (l : room_of lent ≤ room_of more) where
  audits : ((audit im lent).number ≡ 13 → ⊥) → audit im more ≡ audit_lent im lent more
  unfolding audit
  audits h = ap (audit_end im more) (audit-run-more im lent more l (audit-had-room im lent h))

  lookups : (path : List ℕ) → ((lookup im path lent).number ≡ 13 → ⊥) → lookup im path more ≡ lookup_lent im path lent more
  unfolding lookup
  lookups path h =
      ap (lookup_end more) (lookup-run-more im lent more l path (lookup-had-room im path lent h))
      ∙ lookup-words lent more (lookup_run im path lent)

  descriptions : (path : List ℕ) → ((describe im path lent).number ≡ 13 → ⊥) → describe im path more ≡ describe_lent im path lent more
  unfolding describe
  descriptions path h = ap (describe_end more) (describe-run-more im lent more l path (describe-had-room im path lent h))

-- a number is 13, or what holds of the others holds
unless-full : (n : ℕ) {P : Type 0} → ((n ≡ 13 → ⊥) → P) → (n ≡ 13) ⊎ P
unless-full n {P} f = go (eqb n 13) refl
  where
    go : (t : Bool) → eqb n 13 ≡ t → (n ≡ 13) ⊎ P
    go true e = inl (eqb-true n 13 e)
    go false e = inr (f (eqb-false n 13 e))

-- if it isn't 13 with less room, it is the same with more
module _ (im : List ℕ) (lent less : ℕ) (l : room_of less ≤ room_of lent) where
  fewer-audits : ((audit im less).number ≡ 13) ⊎ (audit im less ≡ audit_lent im lent less)
  unfolding audit
  fewer-audits =
      unless-full (audit im less).number (λ h. ap (audit_end im less) (sym (audit-run-more im less lent l (audit-had-room im less h))))

  fewer-lookups : (path : List ℕ) → ((lookup im path less).number ≡ 13) ⊎ (lookup im path less ≡ lookup_lent im path lent less)
  unfolding lookup
  fewer-lookups path =
      unless-full (lookup im path less).number
      (λ h.
      ap (lookup_end less) (sym (lookup-run-more im less lent l path (lookup-had-room im path less h)))
      ∙ lookup-words lent less (lookup_run im path lent))

  fewer-descriptions : (path : List ℕ) → ((describe im path less).number ≡ 13) ⊎ (describe im path less ≡ describe_lent im path lent less)
  unfolding describe
  fewer-descriptions path =
      unless-full (describe im path less).number
      (λ h. ap (describe_end less) (sym (describe-run-more im less lent l path (describe-had-room im path less h))))

pub same-reply : MoreRoom
same-reply = record {
  audits = λ im lent more l h. audits im lent more l h;
  lookups = λ im path lent more l h. lookups im lent more l path h;
  descriptions = λ im path lent more l h. descriptions im lent more l path h;
}

pub same-or-full : LessRoom
same-or-full = record {
  audits = λ im lent less l. fewer-audits im lent less l;
  lookups = λ im path lent less l. fewer-lookups im lent less l path;
  descriptions = λ im path lent less l. fewer-descriptions im lent less l path;
}
