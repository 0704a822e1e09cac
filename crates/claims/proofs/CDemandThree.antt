-- Demand 3 of the C calls: the bytes of the log are its words, and a call that is short leaves the image alone.
use Prim.Native.Nat.{ℕ, ◌+◌, ◌*◌, ◌/◌, ◌≤◌, min}
use mathlib.Core.Bool.{Bool, true, false}
use mathlib.Core.List.{List, [], ◌∷◌}
use mathlib.Core.Path.{◌≡◌, refl, ap, ◌∙◌}
use native.Mathlib.Omega.{arith}
use borrow.Author.Tests.{le-leb, leb-true}
use lib.Dec.{leb}
use lib.ListN.{length, replicate}
use Rattle.format.specs.Limits.{objects_most, rank_most}
use Rattle.std.specs.Prelude.{if◌then◌else◌}
use Rattle.format.specs.Bytes.{to_words}
use Rattle.format.specs.Answers.{AuditReply, LookupReply, DescribeReply, MendReply, audit, lookup, describe, mend, undo}
use Rattle.format.specs.Front.{CMend, CUndo, padded_bytes, short_reply, c_audit_end, c_lookup_end, c_describe_end, c_mend_end, c_undo_end}
use Rattle.format.specs.Front.{c_audit, c_lookup, c_describe, c_mend, c_undo}
use Rattle.demand.specs.Bytes.{IsBytes}
use Rattle.demand.specs.Undos.{Call, after_undos}
use Rattle.demand.specs.Demand3.{Kept, clean_reply}
use Rattle.demand.proofs.MendDone.{mend-done, mend-refused}
use Rattle.claims.specs.Demand3.{wrong_counts}
use Rattle.claims.specs.CDemand3.{CCall, after_cUndos, CKept, entries_read, CMended, CDemand3}
use Rattle.claims.proofs.MendNumber.{mend-number}
use Rattle.claims.proofs.Demand3Due.{demand-three-due}
use Rattle.claims.proofs.WordsBack.{second_word}
use Rattle.claims.proofs.LogWords.{wrong-most, log_back}

-- a mend in C, by the test of its reply's length
module _ (im : List ℕ) (l g r n : ℕ) where
  abbrev tested : Bool → CMend
  tested t =
      if t then c_mend_end l g r (mend im (l / 8) (g / 8) n)
      else record { number = 13; list = replicate l 0; log = replicate g 0; reply = replicate r 0; image = im }

  -- one that is done is a mend that is done
  c-mend-done : (c_mend im l g r n).number ≡ 0 →
      (24 ≤ r) × ((mend im (l / 8) (g / 8) n).number ≡ 0) × (c_mend im l g r n ≡ c_mend_end l g r (mend im (l / 8) (g / 8) n))
  unfolding c_mend
  c-mend-done = go (leb 3 (r / 8)) refl
    where
      go : (t : Bool) → leb 3 (r / 8) ≡ t → (tested t).number ≡ 0 →
          (24 ≤ r) × ((mend im (l / 8) (g / 8) n).number ≡ 0) × (tested t ≡ c_mend_end l g r (mend im (l / 8) (g / 8) n))
      go true e z = (omega (arith, leb-true 3 (r / 8) e), z, refl)
      go false e z = absurd (omega arith)

  c-mend-refused : ((c_mend im l g r n).number ≡ 0 → ⊥) → (c_mend im l g r n).image ≡ im
  unfolding c_mend
  c-mend-refused = go (leb 3 (r / 8))
    where
      go : (t : Bool) → ((tested t).number ≡ 0 → ⊥) → (tested t).image ≡ im
      go true z = ap (λ (m : MendReply). m.image) (mend-refused im (l / 8) (g / 8) n z)
      go false z = refl

  -- "Under .. 3 .. words gives 13 first": with three, the number is the mender's
  c-mend-number : 24 ≤ r → (c_mend im l g r n).number ≡ (mend im (l / 8) (g / 8) n).number
  unfolding c_mend
  c-mend-number h = rw (le-leb 3 (r / 8) (omega arith))

-- an undo in C with a log of these words, by the test of its reply's length
abbrev undone : List ℕ → List ℕ → ℕ → ℕ → ℕ → Bool → CUndo
undone im ws r e n t = if t then c_undo_end r (undo im ws e n) else record { number = 13; reply = replicate r 0; image = im }

c-lookup : (im im' path : List ℕ) (l r : ℕ) → lookup im' path (l / 8) ≡ lookup im path (l / 8) → c_lookup im' path l r ≡ c_lookup im path l r
unfolding c_lookup
c-lookup im im' path l r e = ap (λ (a : LookupReply). if leb 3 (r / 8) then c_lookup_end l r a else short_reply l r) e

c-describe : (im im' path : List ℕ) (l r : ℕ) → describe im' path (l / 8) ≡ describe im path (l / 8) → c_describe im' path l r ≡ c_describe im path l r
unfolding c_describe
c-describe im im' path l r e = ap (λ (a : DescribeReply). if leb (10 + 2 * rank_most) (r / 8) then c_describe_end l r a else short_reply l r) e

-- The bytes log, whose words are ws.
module _ (log ws : List ℕ) (same : to_words (length log / 8) log ≡ ws) where
  c-undo : (im : List ℕ) (r e n : ℕ) → c_undo im log r e n ≡ undone im ws r e n (leb 1 (r / 8))
  unfolding c_undo
  c-undo im r e n = rw same

  -- a list of calls in C does what those of its calls do that aren't short
  c-undos : (im : List ℕ) (us : List CCall) → (vs : List Call) × (after_cUndos im log us ≡ after_undos im ws vs)
  unfolding after_cUndos after_undos
  c-undos im [] = ([], refl)
  c-undos im (u ∷ us) = go (leb 1 (u.bytes / 8)) (c-undo im u.bytes u.entries u.limit) (λ x. c-undos x us)
    where
      go : (t : Bool) → c_undo im log u.bytes u.entries u.limit ≡ undone im ws u.bytes u.entries u.limit t →
          ((x : List ℕ) → (vs : List Call) × (after_cUndos x log us ≡ after_undos x ws vs)) →
          (vs : List Call) × (after_cUndos (c_undo im log u.bytes u.entries u.limit).image log us ≡ after_undos im ws vs)
      go true e rest =
          let next = rest (undo im ws u.entries u.limit).image in
          (record { entries = u.entries; limit = u.limit } ∷ next.0, ap (λ (x : CUndo). after_cUndos x.image log us) e ∙ next.1)
      go false e rest = let next = rest im in (next.0, ap (λ (x : CUndo). after_cUndos x.image log us) e ∙ next.1)

  c-kept : (im : List ℕ) (lent entries : ℕ) (im' : List ℕ) → Kept im lent ws entries im' → CKept im lent log entries im'
  c-kept im lent entries im' k = record {
    fields = k.fields;
    lookups = λ path l r. c-lookup im im' path l r (k.lookups path (l / 8));
    descriptions = λ path l r. c-describe im im' path l r (k.descriptions path (l / 8));
    partly = λ r e limit long h. c-undo im' r e limit ∙ rw (le-leb 1 (r / 8) (omega arith), k.partly e limit h);
    back = λ r limit long enough. c-undo im' r entries limit ∙ rw (le-leb 1 (r / 8) (omega arith), k.back limit enough);
  }

-- with room for its reply the audit isn't short
c-audit : (im : List ℕ) (l r : ℕ) (a : AuditReply) → 8 * (2 + 3 * objects_most) ≤ r → audit im (l / 8) ≡ a → c_audit im l r ≡ c_audit_end l r a
unfolding c_audit objects_most
c-audit im l r a h e = rw (le-leb (2 + 3 * objects_most) (r / 8) (omega arith)) (ap (c_audit_end l r) e)

-- A mend in C that is done.
module _ (im : List ℕ) (l g r n : ℕ) (b : IsBytes im) (z : (c_mend im l g r n).number ≡ 0) where
  abbrev m : MendReply
  m = mend im (l / 8) (g / 8) n

  done : (24 ≤ r) × (m.number ≡ 0) × (c_mend im l g r n ≡ c_mend_end l g r m)
  done = c-mend-done im l g r n z

  abbrev log : List ℕ
  log = padded_bytes g m.log

  abbrev reply : List ℕ
  reply = padded_bytes r ((audit im (l / 8)).block_count ∷ wrong_counts im (l / 8) ∷ min n (wrong_counts im (l / 8)) ∷ [])

  abbrev replied : CMend
  replied = record { number = 0; list = padded_bytes l (audit im (l / 8)).list; log = log; reply = reply; image = m.image }

  -- the reply in C
  ended : c_mend im l g r n ≡ replied
  ended =
      let d = mend-done im (l / 8) (g / 8) n done.1 in
      let e : c_mend_end l g r m ≡ replied = rw d.reply in
      done.2 ∙ e

  entries : entries_read (c_mend im l g r n) ≡ wrong_counts im (l / 8)
  unfolding objects_most
  entries =
      let d = mend-done im (l / 8) (g / 8) n done.1 in
      let most = wrong-most im (l / 8) d.audited in
      ap entries_read ended ∙ second_word r (audit im (l / 8)).block_count (wrong_counts im (l / 8)) _ (omega arith)

  c-mended : CMended im l g r n (c_mend im l g r n)
  c-mended =
      let d = mend-done im (l / 8) (g / 8) n done.1 in
      let whole = demand-three-due im (l / 8) (g / 8) n b d.audited d.room in
      let is = ended in
      let back = log_back im (l / 8) g n b done.1 in
      record {
        room = done.0;
        reply = ap (λ (c : CMend). c.reply) is;
        entries = entries;
        words = rw is back;
        first = rw (entries, is) (rw whole.entries at whole.due.first);
        kept = λ us.
            let vs = c-undos log m.log back m.image us in
            let k = rw whole.entries at (whole.due.kept vs.0) in
            rw (entries, is) (rw vs.1 (c-kept log m.log back im (l / 8) (wrong_counts im (l / 8)) (after_undos m.image m.log vs.0) k));
        clean = λ k r' h.
            rw is (c-audit m.image l r' (clean_reply (audit im (l / 8))) h (whole.due.clean (omega (arith, entries, whole.entries))).reply);
      }

pub c-demand-three : (im : List ℕ) (l g r n : ℕ) → IsBytes im → CDemand3 im l g r n (c_mend im l g r n)
c-demand-three im l g r n b = record { refused = c-mend-refused im l g r n; mended = c-mended im l g r n b }

-- demand 3 in C, due for every image that the audit accepts, with three words for the reply and a log that holds every wrong count
pub c-demand-three-due : (im : List ℕ) (l g r n : ℕ) → IsBytes im → (audit im (l / 8)).number ≡ 0 → 16 * wrong_counts im (l / 8) ≤ g → 24 ≤ r →
    ((c_mend im l g r n).number ≡ 0) × CMended im l g r n (c_mend im l g r n)
c-demand-three-due im l g r n b z h k =
    let d = c-mend-number im l g r n k ∙ (mend-number im (l / 8) (g / 8) n).accepted z (omega arith) in
    (d, c-mended im l g r n b d)
