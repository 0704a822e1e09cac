-- "gives one of the numbered answers": every call gives one of its numbers.
use Prim.Native.Nat.{ℕ, zero, suc, ◌+◌, ◌*◌, ◌/◌}
use mathlib.Core.Bool.{Bool, true, false, not}
use mathlib.Core.List.Memᴰ
use mathlib.Core.List.{List, [], ◌∷◌}
use mathlib.Core.Path.{refl}
use lib.Dec.{leb}
use lib.ListN.{length}
use Rattle.format.specs.Limits.{image_least, image_most, objects_most, rank_most}
use Rattle.std.specs.Prelude.{if◌then◌else◌}
use Rattle.format.specs.Bytes.{in_range, contains, to_words}
use Rattle.format.specs.Audit.{audit_run}
use Rattle.format.specs.Lookup.{lookup_run}
use Rattle.format.specs.Describe.{describe_run}
use Rattle.format.specs.Mend.{corrections}
use Rattle.format.specs.Log.{changes}
use Rattle.format.specs.Undo.{all_fit, undo_number}
use Rattle.format.specs.Answers.{audit, lookup, describe, mended_by, not_mended, mend_after, mend, undo_end, undo}
use Rattle.format.specs.Front.{CReply, short_reply, c_audit_end, c_lookup_end, c_describe_end, c_mend_end, c_undo_end}
use Rattle.format.specs.Front.{c_audit, c_lookup, c_describe, c_mend, c_undo}
use Rattle.found.specs.Accepted.{OneOf}
use Rattle.links.proofs.Includes.{includes-in}
use Rattle.links.proofs.ReplyNumbers.{audit-reply-number, lookup-reply-number, describe-reply-number, only-number}
use Rattle.links.proofs.AuditAnswers.{audit_refusals, audit-only}
use Rattle.claims.specs.Numbers.{audit_numbers, lookup_numbers, describe_numbers, mend_numbers, undo_numbers, c_undo_numbers}
use Rattle.claims.specs.Answers.{Numbers}
use Rattle.claims.specs.Zeros.{c_mend_zeros, c_undo_zeros}
use Rattle.claims.proofs.NumberedCalls.{lookup_refusals, lookup-only, describe-only}

-- a number stands in a list
ruleset members = (refl, Memᴰ.head, Memᴰ.tail)

audits : (im : List ℕ) (lent : ℕ) → OneOf audit_numbers (audit im lent).number
unfolding contains
audits im lent =
    rw (audit-reply-number im lent)
    (only-number (OneOf audit_numbers) (search members) (audit_run im lent)
    (audit-only (OneOf audit_numbers) (includes-in audit_refusals audit_numbers refl) im lent))

lookups : (im path : List ℕ) (lent : ℕ) → OneOf lookup_numbers (lookup im path lent).number
unfolding contains
lookups im path lent =
    rw (lookup-reply-number im path lent)
    (only-number (OneOf lookup_numbers) (search members) (lookup_run im path lent)
    (lookup-only (OneOf lookup_numbers) (includes-in lookup_refusals lookup_numbers refl) im path lent))

descriptions : (im path : List ℕ) (lent : ℕ) → OneOf describe_numbers (describe im path lent).number
unfolding contains
descriptions im path lent =
    rw (describe-reply-number im path lent)
    (only-number (OneOf describe_numbers) (search members) (describe_run im path lent)
    (describe-only (OneOf describe_numbers) (includes-in lookup_refusals describe_numbers refl)
    (search members depth 20) (search members depth 20) im path lent))

mends : (im : List ℕ) (lent log_lent n : ℕ) → OneOf mend_numbers (mend im lent log_lent n).number
unfolding mend
mends im lent log_lent n = go (audit im lent).number (Memᴰ.append_left (18 ∷ []) (audits im lent))
  where
    go : (k : ℕ) → OneOf mend_numbers k → OneOf mend_numbers (mend_after im lent log_lent n k (audit im lent)).number
    go zero h = fits (leb (2 * length (corrections (audit im lent).objects)) log_lent) _
      where
        fits : (t : Bool) (w : ℕ) →
            OneOf mend_numbers
            (if t then mended_by im log_lent (audit im lent) (corrections (audit im lent).objects) w else not_mended im lent log_lent 18 0).number
        fits true w = Memᴰ.head refl
        fits false w = search members depth 20
    go (suc k) h = h

undos : (im log : List ℕ) (e n : ℕ) → OneOf undo_numbers (undo im log e n).number
unfolding undo undo_number
undos im log e n = go (not (in_range image_least image_most (length im))) (not (leb (2 * e) (length log))) (all_fit im (changes e log))
  where
    go : (t u v : Bool) → OneOf undo_numbers (undo_end im log e n (if t then 1 else if u then 18 else if v then 0 else 19)).number
    go true u v = search members
    go false true v = search members
    go false false true = search members
    go false false false = search members

-- in C: the call's number, or 13
c-number : (N : ℕ → Type 0) → N 13 → (t : Bool) (l r : ℕ) (c : CReply) → N c.number → N (if t then c else short_reply l r).number
c-number N full true l r c h = h
c-number N full false l r c h = full

c_audits : (im : List ℕ) (l r : ℕ) → OneOf audit_numbers (c_audit im l r).number
unfolding c_audit
c_audits im l r =
    c-number (OneOf audit_numbers) (search members depth 20) (leb (2 + 3 * objects_most) (r / 8)) l r (c_audit_end l r (audit im (l / 8))) (audits im (l / 8))

c_lookups : (im path : List ℕ) (l r : ℕ) → OneOf lookup_numbers (c_lookup im path l r).number
unfolding c_lookup
c_lookups im path l r =
    c-number (OneOf lookup_numbers) (search members depth 20) (leb 3 (r / 8)) l r (c_lookup_end l r (lookup im path (l / 8))) (lookups im path (l / 8))

c_descriptions : (im path : List ℕ) (l r : ℕ) → OneOf describe_numbers (c_describe im path l r).number
unfolding c_describe
c_descriptions im path l r =
    c-number (OneOf describe_numbers) (search members depth 20) (leb (10 + 2 * rank_most) (r / 8)) l r
    (c_describe_end l r (describe im path (l / 8))) (descriptions im path (l / 8))

c_mends : (im : List ℕ) (l g r n : ℕ) → OneOf mend_numbers (c_mend im l g r n).number
unfolding c_mend
c_mends im l g r n = go (leb 3 (r / 8))
  where
    go : (t : Bool) → OneOf mend_numbers (if t then c_mend_end l g r (mend im (l / 8) (g / 8) n) else c_mend_zeros im l g r 13).number
    go true = mends im (l / 8) (g / 8) n
    go false = search members depth 20

c_undos : (im log : List ℕ) (r e n : ℕ) → OneOf c_undo_numbers (c_undo im log r e n).number
unfolding c_undo
c_undos im log r e n = go (leb 1 (r / 8))
  where
    go : (t : Bool) → OneOf c_undo_numbers (if t then c_undo_end r (undo im (to_words (length log / 8) log) e n) else c_undo_zeros im r 13).number
    go true = Memᴰ.append_left (13 ∷ []) (undos im (to_words (length log / 8) log) e n)
    go false = search members depth 8

pub all-numbers : Numbers
all-numbers = record {
  audits = audits;
  lookups = lookups;
  descriptions = descriptions;
  mends = mends;
  undos = undos;
  c_audits = c_audits;
  c_lookups = c_lookups;
  c_descriptions = c_descriptions;
  c_mends = c_mends;
  c_undos = c_undos;
}
