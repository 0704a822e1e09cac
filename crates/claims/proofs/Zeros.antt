-- "Any number but 0 returns zeros in every other field, zero-fills every list lent for writing, and changes no image byte."
use Prim.Native.Nat.{ℕ, zero, suc, ◌+◌, ◌*◌, ◌/◌, ◌-◌}
use mathlib.Core.Bool.{Bool, true, false}
use mathlib.Core.List.{List, []}
use mathlib.Core.Path.{◌≡◌, refl, ap, ◌∙◌}
use native.Mathlib.Omega.{arith}
use borrow.Author.Tests.{ne_eqb}
use lib.Dec.{leb}
use lib.ListN.{length, replicate}
use Rattle.format.specs.Limits.{objects_most, rank_most}
use Rattle.std.specs.Prelude.{if◌then◌else◌}
use Rattle.format.specs.Bytes.{to_words}
use Rattle.format.specs.Walk.{Outcome, done, refused}
use Rattle.format.specs.Ledger.{Linked}
use Rattle.format.specs.Audit.{audit_run}
use Rattle.format.specs.Lookup.{Located, lookup_run}
use Rattle.format.specs.Dataset.{Dataset}
use Rattle.format.specs.Describe.{describe_run}
use Rattle.format.specs.Undo.{undo_number}
use Rattle.format.specs.Answers.{AuditReply, LookupReply, DescribeReply, MendReply, UndoReply, audit_end, audit, lookup_end, lookup, describe_end}
use Rattle.format.specs.Answers.{describe, mend, undo_end, undo}
use Rattle.format.specs.Front.{CReply, word_bytes, padded_bytes, if_done, reply_words}
use Rattle.format.specs.Front.{c_audit_end, c_lookup_end, c_describe_end, c_mend_end, c_undo_end, c_audit, c_lookup}
use Rattle.format.specs.Front.{c_describe, c_mend, c_undo}
use Rattle.words.proofs.Words.{padded-zeros}
use Rattle.demand.proofs.MendDone.{mend-refused}
use Rattle.claims.specs.Zeros.{audit_zeros, lookup_zeros, describe_zeros, mend_zeros, undo_zeros, c_zeros, c_mend_zeros, c_undo_zeros}
use Rattle.claims.specs.Zeros.{c_met, c_mend_met, Zeros}
use Rattle.claims.proofs.BlockMet.{audit-only-six, lookup-only-six, describe-only-six, mend-only-six}

audits : (im : List ℕ) (lent : ℕ) → ((audit im lent).number ≡ 0 → ⊥) → audit im lent ≡ audit_zeros lent (audit im lent).number (audit im lent).met
unfolding audit
audits im lent = go (audit_run im lent)
  where
    go : (o : Outcome (List Linked)) → ((audit_end im lent o).number ≡ 0 → ⊥) →
        audit_end im lent o ≡ audit_zeros lent (audit_end im lent o).number (audit_end im lent o).met
    go (done os bs) h = absurd (h refl)
    go (refused n bs) h = refl

lookups : (im path : List ℕ) (lent : ℕ) → ((lookup im path lent).number ≡ 0 → ⊥) →
    lookup im path lent ≡ lookup_zeros lent (lookup im path lent).number (lookup im path lent).met
unfolding lookup
lookups im path lent = go (lookup_run im path lent)
  where
    go : (o : Outcome Located) → ((lookup_end lent o).number ≡ 0 → ⊥) → lookup_end lent o ≡ lookup_zeros lent (lookup_end lent o).number (lookup_end lent o).met
    go (done p bs) h = absurd (h refl)
    go (refused n bs) h = refl

descriptions : (im path : List ℕ) (lent : ℕ) → ((describe im path lent).number ≡ 0 → ⊥) →
    describe im path lent ≡ describe_zeros lent (describe im path lent).number (describe im path lent).met
unfolding describe
descriptions im path lent = go (describe_run im path lent)
  where
    go : (o : Outcome Dataset) → ((describe_end lent o).number ≡ 0 → ⊥) →
        describe_end lent o ≡ describe_zeros lent (describe_end lent o).number (describe_end lent o).met
    go (done d bs) h = absurd (h refl)
    go (refused n bs) h = refl

undos : (im log : List ℕ) (e n : ℕ) → ((undo im log e n).number ≡ 0 → ⊥) → undo im log e n ≡ undo_zeros im (undo im log e n).number
unfolding undo
undos im log e n = go (undo_number im log e)
  where
    go : (k : ℕ) → ((undo_end im log e n k).number ≡ 0 → ⊥) → undo_end im log e n k ≡ undo_zeros im (undo_end im log e n k).number
    go zero h = absurd (h refl)
    go (suc k) h = refl

-- a list of zeros as bytes
pub list-zeros : (l : ℕ) → padded_bytes l (replicate (l / 8) 0) ≡ replicate l 0
list-zeros l = padded-zeros l (l / 8) (omega arith)

-- a reply of which nothing is written
nothing_written : (r : ℕ) → padded_bytes r [] ≡ replicate r 0
unfolding word_bytes
nothing_written r = let none : r - 0 ≡ r = omega arith in rw none

reply-zeros : (r k met : ℕ) (ws : List ℕ) → (k ≡ 0 → ⊥) → (k ≡ 6 → ⊥) → padded_bytes r (reply_words k met ws) ≡ replicate r 0
reply-zeros r zero met ws h six = absurd (h refl)
reply-zeros r (suc k) met ws h six = rw (ne_eqb (suc k) 6 six) (nothing_written r)

undo-zeros : (r k : ℕ) (ws : List ℕ) → (k ≡ 0 → ⊥) → padded_bytes r (if_done k ws) ≡ replicate r 0
undo-zeros r zero ws h = absurd (h refl)
undo-zeros r (suc k) ws h = nothing_written r

module _ (l r : ℕ) where
  -- a call that isn't short, whose reply has a list of zeros
  abbrev written : ℕ → ℕ → List ℕ → List ℕ → CReply
  written k met ns ws = record { number = k; list = padded_bytes l ns; reply = padded_bytes r (reply_words k met ws) }

  ended : (k met : ℕ) (ns ws : List ℕ) → ns ≡ replicate (l / 8) 0 → (k ≡ 0 → ⊥) → (k ≡ 6 → ⊥) → written k met ns ws ≡ c_zeros l r k
  ended k met ns ws e h six = rw (e, list-zeros l, reply-zeros r k met ws h six)

  ended-six : (k met : ℕ) (ns ws : List ℕ) → ns ≡ replicate (l / 8) 0 → k ≡ 6 → written k met ns ws ≡ c_met l r met
  ended-six k met ns ws e six = rw (six, e, list-zeros l)

  chosen : (t : Bool) (c : CReply) → ((c.number ≡ 0 → ⊥) → (c.number ≡ 6 → ⊥) → c ≡ c_zeros l r c.number) →
      ((if t then c else c_zeros l r 13).number ≡ 0 → ⊥) → ((if t then c else c_zeros l r 13).number ≡ 6 → ⊥) →
      (if t then c else c_zeros l r 13) ≡ c_zeros l r (if t then c else c_zeros l r 13).number
  chosen true c h z six = h z six
  chosen false c h z six = refl

  chosen-six : (t : Bool) (c : CReply) (met : ℕ) → (c.number ≡ 6 → c ≡ c_met l r met) → (if t then c else c_zeros l r 13).number ≡ 6 →
      (if t then c else c_zeros l r 13) ≡ c_met l r met
  chosen-six true c met h six = h six
  chosen-six false c met h six = absurd (omega (arith, six))

-- 6 isn't 0
six-refused : (k : ℕ) → k ≡ 6 → k ≡ 0 → ⊥
six-refused k six z = omega arith

module _ (im : List ℕ) (l r : ℕ) where
  audit-list : ((audit im (l / 8)).number ≡ 0 → ⊥) → (audit im (l / 8)).list ≡ replicate (l / 8) 0
  audit-list z = ap (λ (a : AuditReply). a.list) (audits im (l / 8) z)

  c_audits : ((c_audit im l r).number ≡ 0 → ⊥) → ((c_audit im l r).number ≡ 6 → ⊥) → c_audit im l r ≡ c_zeros l r (c_audit im l r).number
  unfolding c_audit
  c_audits =
      chosen l r (leb (2 + 3 * objects_most) (r / 8)) (c_audit_end l r (audit im (l / 8)))
      (λ z six. ended l r (audit im (l / 8)).number (audit im (l / 8)).met (audit im (l / 8)).list _ (audit-list z) z six)

  c_audits_with_six : (c_audit im l r).number ≡ 6 → c_audit im l r ≡ c_met l r (audit im (l / 8)).met
  unfolding c_audit
  c_audits_with_six =
      chosen-six l r (leb (2 + 3 * objects_most) (r / 8)) (c_audit_end l r (audit im (l / 8))) (audit im (l / 8)).met
      (λ six. ended-six l r (audit im (l / 8)).number (audit im (l / 8)).met (audit im (l / 8)).list _ (audit-list (six-refused _ six)) six)

module _ (im path : List ℕ) (l r : ℕ) where
  lookup-list : ((lookup im path (l / 8)).number ≡ 0 → ⊥) → (lookup im path (l / 8)).list ≡ replicate (l / 8) 0
  lookup-list z = ap (λ (a : LookupReply). a.list) (lookups im path (l / 8) z)

  c_lookups : ((c_lookup im path l r).number ≡ 0 → ⊥) → ((c_lookup im path l r).number ≡ 6 → ⊥) →
      c_lookup im path l r ≡ c_zeros l r (c_lookup im path l r).number
  unfolding c_lookup
  c_lookups =
      let a = lookup im path (l / 8) in
      chosen l r (leb 3 (r / 8)) (c_lookup_end l r a) (λ z six. ended l r a.number a.met a.list _ (lookup-list z) z six)

  c_lookups_with_six : (c_lookup im path l r).number ≡ 6 → c_lookup im path l r ≡ c_met l r (lookup im path (l / 8)).met
  unfolding c_lookup
  c_lookups_with_six =
      let a = lookup im path (l / 8) in
      chosen-six l r (leb 3 (r / 8)) (c_lookup_end l r a) a.met
      (λ six. ended-six l r a.number a.met a.list _ (lookup-list (six-refused _ six)) six)

  describe-list : ((describe im path (l / 8)).number ≡ 0 → ⊥) → (describe im path (l / 8)).list ≡ replicate (l / 8) 0
  describe-list z = ap (λ (a : DescribeReply). a.list) (descriptions im path (l / 8) z)

  c_descriptions : ((c_describe im path l r).number ≡ 0 → ⊥) → ((c_describe im path l r).number ≡ 6 → ⊥) →
      c_describe im path l r ≡ c_zeros l r (c_describe im path l r).number
  unfolding c_describe
  c_descriptions =
      let a = describe im path (l / 8) in
      chosen l r (leb (10 + 2 * rank_most) (r / 8)) (c_describe_end l r a) (λ z six. ended l r a.number a.met a.list _ (describe-list z) z six)

  c_descriptions_with_six : (c_describe im path l r).number ≡ 6 → c_describe im path l r ≡ c_met l r (describe im path (l / 8)).met
  unfolding c_describe
  c_descriptions_with_six =
      let a = describe im path (l / 8) in
      chosen-six l r (leb (10 + 2 * rank_most) (r / 8)) (c_describe_end l r a) a.met
      (λ six. ended-six l r a.number a.met a.list _ (describe-list (six-refused _ six)) six)

module _ (im : List ℕ) (l g r : ℕ) where
  mend-end : (m : MendReply) → m ≡ mend_zeros im (l / 8) (g / 8) m.number m.met → (m.number ≡ 0 → ⊥) → (m.number ≡ 6 → ⊥) →
      c_mend_end l g r m ≡ c_mend_zeros im l g r m.number
  mend-end m e z six =
      let k = m.number in
      ap (c_mend_end l g r) e ∙ rw (list-zeros l, list-zeros g, reply-zeros r k m.met _ z six)

  mend-six : (m : MendReply) → m ≡ mend_zeros im (l / 8) (g / 8) m.number m.met → m.number ≡ 6 → c_mend_end l g r m ≡ c_mend_met im l g r m.met
  mend-six m e six =
      let k = m.number in
      ap (c_mend_end l g r) e ∙ rw (six, list-zeros l, list-zeros g)

  module _ (n : ℕ) where
    abbrev mended : MendReply
    mended = mend im (l / 8) (g / 8) n

    c_mends : ((c_mend im l g r n).number ≡ 0 → ⊥) → ((c_mend im l g r n).number ≡ 6 → ⊥) → c_mend im l g r n ≡ c_mend_zeros im l g r (c_mend im l g r n).number
    unfolding c_mend
    c_mends = go (leb 3 (r / 8))
      where
        go : (t : Bool) → ((if t then c_mend_end l g r mended else c_mend_zeros im l g r 13).number ≡ 0 → ⊥) →
            ((if t then c_mend_end l g r mended else c_mend_zeros im l g r 13).number ≡ 6 → ⊥) →
            (if t then c_mend_end l g r mended else c_mend_zeros im l g r 13) ≡
            c_mend_zeros im l g r (if t then c_mend_end l g r mended else c_mend_zeros im l g r 13).number
        go true z six = mend-end mended (mend-refused im (l / 8) (g / 8) n z) z six
        go false z six = refl

    c_mends_with_six : (c_mend im l g r n).number ≡ 6 → c_mend im l g r n ≡ c_mend_met im l g r mended.met
    unfolding c_mend
    c_mends_with_six = go (leb 3 (r / 8))
      where
        go : (t : Bool) → (if t then c_mend_end l g r mended else c_mend_zeros im l g r 13).number ≡ 6 →
            (if t then c_mend_end l g r mended else c_mend_zeros im l g r 13) ≡ c_mend_met im l g r mended.met
        go true six = mend-six mended (mend-refused im (l / 8) (g / 8) n (six-refused _ six)) six
        go false six = absurd (omega (arith, six))

undo-end : (im : List ℕ) (r : ℕ) (u : UndoReply) → (u.number ≡ 0 → ⊥) → u ≡ undo_zeros im u.number → c_undo_end r u ≡ c_undo_zeros im r u.number
undo-end im r u z e = ap (c_undo_end r) e ∙ rw (undo-zeros r u.number _ z)

c_undos : (im log : List ℕ) (r e n : ℕ) → ((c_undo im log r e n).number ≡ 0 → ⊥) → c_undo im log r e n ≡ c_undo_zeros im r (c_undo im log r e n).number
unfolding c_undo
c_undos im log r e n = go (leb 1 (r / 8)) (undo im (to_words (length log / 8) log) e n) (undos im (to_words (length log / 8) log) e n)
  where
    go : (t : Bool) (u : UndoReply) → ((u.number ≡ 0 → ⊥) → u ≡ undo_zeros im u.number) →
        ((if t then c_undo_end r u else c_undo_zeros im r 13).number ≡ 0 → ⊥) →
        (if t then c_undo_end r u else c_undo_zeros im r 13) ≡ c_undo_zeros im r (if t then c_undo_end r u else c_undo_zeros im r 13).number
    go true u h z = undo-end im r u z (h z)
    go false u h z = refl

pub all-zeros : Zeros
all-zeros = record {
  audits = audits;
  lookups = lookups;
  descriptions = descriptions;
  mends = mend-refused;
  undos = undos;
  audits_only_six = audit-only-six;
  lookups_only_six = lookup-only-six;
  descriptions_only_six = describe-only-six;
  mends_only_six = mend-only-six;
  c_audits = c_audits;
  c_lookups = c_lookups;
  c_descriptions = c_descriptions;
  c_mends = c_mends;
  c_undos = c_undos;
  c_audits_with_six = c_audits_with_six;
  c_lookups_with_six = c_lookups_with_six;
  c_descriptions_with_six = c_descriptions_with_six;
  c_mends_with_six = c_mends_with_six;
}
