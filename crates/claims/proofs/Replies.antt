-- The replies of lookup and description: 0 exactly if the path is found or described, 15 exactly if it is absent.
use Prim.Native.Nat.{ℕ, ◌*◌, ◌/◌, ◌+◌, ◌≤◌}
use mathlib.Core.Bool.{true}
use mathlib.Core.List.{List, [], ◌∷◌}
use mathlib.Core.Logic.{◌↔◌}
use mathlib.Core.Path.{◌≡◌, refl, ap, sym, ◌∙◌}
use native.Mathlib.Omega.{arith}
use borrow.Author.Tests.{le-leb}
use lib.Dec.{leb}
use lib.ListN.{replicate}
use Rattle.format.specs.Limits.{rank_most}
use Rattle.format.specs.Bytes.{contains}
use Rattle.format.specs.Blocks.{Block}
use Rattle.format.specs.Walk.{Outcome, done}
use Rattle.format.specs.Lookup.{lookup_run}
use Rattle.format.specs.Dataset.{Dataset}
use Rattle.format.specs.Describe.{describe_run}
use Rattle.format.specs.Answers.{LookupReply, DescribeReply, lookup_end, lookup, describe_end, describe}
use Rattle.format.specs.Front.{padded_bytes, CReply, c_lookup_end, c_describe_end, c_lookup, c_describe}
use Rattle.links.proofs.Includes.{includes_none}
use Rattle.links.proofs.ReplyNumbers.{number_of, lookup-reply-number, describe-reply-number, number-done, number-refused}
use Rattle.found.specs.Found.{RefusedWith, IsFound, IsAbsent, IsDescribed}
use Rattle.found.proofs.LookupFound.{lookup-found, lookup_absent}
use Rattle.found.proofs.DescribeFound.{describe-found, describe-absent}
use Rattle.claims.specs.Replies.{Absent, LookupReplies, DescribeReplies, CReplies}
use Rattle.claims.proofs.NumberedCalls.{lookup_refusals, lookup-only, describe-only}
use Rattle.claims.proofs.Zeros.{list-zeros}

-- a refusal is never 0
abbrev NotZero : ℕ → Type 0
NotZero n = n ≡ 0 → ⊥

module _ (im path : List ℕ) (lent : ℕ) where
  lookup-given : (kind address : ℕ) (bs : List Block) → IsFound im path lent kind address bs →
      lookup im path lent ≡ record { number = 0; met = 0; kind = kind; address = address; block_count = 0; list = replicate lent 0 }
  unfolding lookup
  lookup-given kind address bs f = ap (lookup_end lent) ((lookup-found im path lent kind address bs).1 f)

  -- what is found is found with the reply's kind and address
  found-replied : (kind address : ℕ) (bs : List Block) → IsFound im path lent kind address bs →
      IsFound im path lent (lookup im path lent).kind (lookup im path lent).address bs
  found-replied kind address bs f = rw (lookup-given kind address bs f) f

  lookup-zero : ((lookup im path lent).number ≡ 0) ↔ ((bs : List Block) × IsFound im path lent (lookup im path lent).kind (lookup im path lent).address bs)
  unfolding contains
  lookup-zero = (forth, λ f. ap (λ (r : LookupReply). r.number) (lookup-given _ _ f.0 f.1))
    where
      forth : (lookup im path lent).number ≡ 0 → (bs : List Block) × IsFound im path lent (lookup im path lent).kind (lookup im path lent).address bs
      forth z =
          let d = number-done (lookup_run im path lent) (lookup-only NotZero (includes_none 0 lookup_refusals refl) im path lent)
          (sym (lookup-reply-number im path lent) ∙ z) in
          (d.1, found-replied d.0.kind d.0.address d.1 ((lookup-found im path lent d.0.kind d.0.address d.1).0 d.2))

  describe-given : (d : Dataset) (bs : List Block) → IsDescribed im path lent d bs → describe im path lent ≡ describe_end lent (done d bs)
  unfolding describe
  describe-given d bs f = ap (describe_end lent) ((describe-found im path lent d bs).1 f)

  describe-zero : ((describe im path lent).number ≡ 0) ↔ ((d : Dataset) × (bs : List Block) × IsDescribed im path lent d bs)
  unfolding contains
  describe-zero = (forth, λ f. ap (λ (r : DescribeReply). r.number) (describe-given f.0 f.1 f.2))
    where
      forth : (describe im path lent).number ≡ 0 → (d : Dataset) × (bs : List Block) × IsDescribed im path lent d bs
      forth z =
          let d = number-done (describe_run im path lent)
          (describe-only NotZero (includes_none 0 lookup_refusals refl) (λ e. omega arith) (λ e. omega arith) im path lent)
          (sym (describe-reply-number im path lent) ∙ z) in
          (d.0, d.1, (describe-found im path lent d.0 d.1).0 d.2)

  -- 15 is the number exactly if the run is refused with it
  number-absent : {A : Type 0} (o : Outcome A) → ((bs : List Block) → RefusedWith o 15 bs ↔ IsAbsent im path lent bs) → (number_of o ≡ 15) ↔ Absent im path lent
  number-absent {A} o same = (forth, back)
    where
      forth : number_of o ≡ 15 → Absent im path lent
      forth z = let r = number-refused 15 (λ e. omega arith) o z in (r.1, (same r.1).0 (r.0, r.2, r.3))

      back : Absent im path lent → number_of o ≡ 15
      back a = let r = (same a.0).1 a.1 in ap (λ (q : Outcome A). number_of q) r.1 ∙ r.2

  lookup-fifteen : ((lookup im path lent).number ≡ 15) ↔ Absent im path lent
  lookup-fifteen = rw (lookup-reply-number im path lent) (number-absent (lookup_run im path lent) (lookup_absent im path lent))

  describe-fifteen : ((describe im path lent).number ≡ 15) ↔ Absent im path lent
  describe-fifteen = rw (describe-reply-number im path lent) (number-absent (describe_run im path lent) (describe-absent im path lent))

-- in C, with room for the reply
module _ (im path : List ℕ) (l r : ℕ) where
  c-lookup : 3 ≤ r / 8 → c_lookup im path l r ≡ c_lookup_end l r (lookup im path (l / 8))
  unfolding c_lookup
  c-lookup fits = let t : leb 3 (r / 8) ≡ true = le-leb 3 (r / 8) fits in rw t

  c-describe : 10 + 2 * rank_most ≤ r / 8 → c_describe im path l r ≡ c_describe_end l r (describe im path (l / 8))
  unfolding c_describe
  c-describe fits = let t : leb (10 + 2 * rank_most) (r / 8) ≡ true = le-leb (10 + 2 * rank_most) (r / 8) fits in rw t

  c-lookup-number : 3 ≤ r / 8 → (c_lookup im path l r).number ≡ (lookup im path (l / 8)).number
  c-lookup-number fits = ap (λ (c : CReply). c.number) (c-lookup fits)

  c-describe-number : 10 + 2 * rank_most ≤ r / 8 → (c_describe im path l r).number ≡ (describe im path (l / 8)).number
  c-describe-number fits = ap (λ (c : CReply). c.number) (c-describe fits)

  c-found-given : 3 ≤ r / 8 → (kind address : ℕ) (bs : List Block) → IsFound im path (l / 8) kind address bs →
      c_lookup im path l r ≡ record { number = 0; list = replicate l 0; reply = padded_bytes r (0 ∷ kind ∷ address ∷ []) }
  c-found-given fits kind address bs f = c-lookup fits ∙ ap (c_lookup_end l r) (lookup-given im path (l / 8) kind address bs f) ∙ rw (list-zeros l)

  c-found : 3 ≤ r / 8 → ((c_lookup im path l r).number ≡ 0) ↔ ((kind address : ℕ) × (bs : List Block) × IsFound im path (l / 8) kind address bs)
  c-found fits = (
    (λ z. let f = (lookup-zero im path (l / 8)).0 (sym (c-lookup-number fits) ∙ z) in (_, _, f.0, f.1)),
    λ f. ap (λ (c : CReply). c.number) (c-found-given fits f.0 f.1 f.2 f.3),
  )

  c-not-found : 3 ≤ r / 8 → ((c_lookup im path l r).number ≡ 15) ↔ Absent im path (l / 8)
  c-not-found fits =
      (λ z. (lookup-fifteen im path (l / 8)).0 (sym (c-lookup-number fits) ∙ z), λ a. c-lookup-number fits ∙ (lookup-fifteen im path (l / 8)).1 a)

  c-described-given : 10 + 2 * rank_most ≤ r / 8 → (d : Dataset) (bs : List Block) → IsDescribed im path (l / 8) d bs →
      c_describe im path l r ≡ c_describe_end l r (describe_end (l / 8) (done d bs))
  c-described-given fits d bs f = c-describe fits ∙ ap (c_describe_end l r) (describe-given im path (l / 8) d bs f)

  c-described : 10 + 2 * rank_most ≤ r / 8 →
      ((c_describe im path l r).number ≡ 0) ↔ ((d : Dataset) × (bs : List Block) × IsDescribed im path (l / 8) d bs)
  c-described fits =
      (λ z. (describe-zero im path (l / 8)).0 (sym (c-describe-number fits) ∙ z), λ f. c-describe-number fits ∙ (describe-zero im path (l / 8)).1 f)

  c-not-described : 10 + 2 * rank_most ≤ r / 8 → ((c_describe im path l r).number ≡ 15) ↔ Absent im path (l / 8)
  c-not-described fits =
      (λ z. (describe-fifteen im path (l / 8)).0 (sym (c-describe-number fits) ∙ z), λ a. c-describe-number fits ∙ (describe-fifteen im path (l / 8)).1 a)

pub lookup-replies : LookupReplies
lookup-replies = record { found = lookup-zero; given = lookup-given; absent = lookup-fifteen }

pub describe-replies : DescribeReplies
describe-replies = record { described = describe-zero; given = describe-given; absent = describe-fifteen }

pub c-replies : CReplies
c-replies = record {
  found = c-found;
  found_given = c-found-given;
  not_found = c-not-found;
  described = c-described;
  described_given = c-described-given;
  not_described = c-not-described;
}
