-- From what mending returns and leaves to the reply.
use Prim.Native.Nat.{ℕ, zero, suc, ◌*◌, ◌≤◌, ◌<◌, min}
use mathlib.Core.List.{List}
use mathlib.Core.Path.{◌≡◌, refl, ap, sym, ◌∙◌}
use native.Mathlib.Omega.{arith}
use borrow.Author.Tests.{le-leb, lt-leb}
use lib.ListN.{length, take, replicate}
use Rattle.format.specs.Limits.{objects_most}
use Rattle.format.specs.Bytes.{padded}
use Rattle.format.specs.Log.{Change, log_words, changes, written}
use Rattle.format.specs.Mend.{corrections}
use Rattle.format.specs.declared.Refusal.{Refusal}
use Rattle.format.specs.Walk.{fault, no_place, answer_of, met_of}
use Rattle.std.specs.Prelude.{Ok, Err}
use Rattle.format.specs.Answers.{AuditReply, audit, mend, mend_after, mended_by, not_mended}
use Rattle.ledger.specs.Report.{counted_of}
use Rattle.walk.specs.Lent.{handed}
use Rattle.audit.specs.Audit.{with_ledger, AuditIs}
use Rattle.audit.specs.declared.Reply.{Reply}
use Rattle.walk.proofs.Handed.{handed-none}
use Rattle.undo_log.specs.Entries.{WrongCounts, NewsFit}
use Rattle.undo_log.proofs.WrittenLaws.{changes-written}
use Rattle.mend.specs.Mended.{reply_of, MendIs}

-- What mending gives after an audit with this reply.
module _ (im : List ℕ) (lent log_lent n : ℕ) (a : AuditReply) where
  after_is : a ≡ audit im lent → mend_after im lent log_lent n a.number a ≡ mend im lent log_lent n
  unfolding mend
  after_is e = rw e

  after-refused : (m : ℕ) → (m ≡ 0 → ⊥) → mend_after im lent log_lent n m a ≡ not_mended im lent log_lent m a.met
  after-refused zero h = absurd (h refl)
  after-refused (suc m) h = refl

  after-short : log_lent < 2 * length (corrections a.objects) → mend_after im lent log_lent n 0 a ≡ not_mended im lent log_lent 18 0
  after-short h = rw (lt-leb (2 * length (corrections a.objects)) log_lent h)

  after-done : 2 * length (corrections a.objects) ≤ log_lent →
      mend_after im lent log_lent n 0 a ≡ mended_by im log_lent a (corrections a.objects) (min n (length (corrections a.objects)))
  after-done h = rw (le-leb (2 * length (corrections a.objects)) log_lent h)

-- whatever the working list has, none of it is handed over with a refusal
refused-is : (im : List ℕ) (lent log_lent : ℕ) (x : Refusal) (list log : List ℕ) → log ≡ replicate log_lent 0 →
    reply_of (handed lent 0 list) log im (Err x) ≡ not_mended im lent log_lent (answer_of x) (met_of x)
refused-is im lent log_lent x list log e = rw (handed-none lent list, e)

-- the audit refused
pub audit-refused : (im : List ℕ) (lent log_lent n : ℕ) (x : Refusal) (list : List ℕ) → AuditIs im lent (handed lent 0 list) (Err x) →
    (log : List ℕ) → log ≡ replicate log_lent 0 → MendIs im lent log_lent n (handed lent 0 list) log im (Err x)
audit-refused im lent log_lent n x list is log e =
    let audited = with_ledger (handed lent 0 list) (Err x) in
    record {
      reply = refused-is im lent log_lent x list log e
          ∙ sym (after-refused im lent log_lent n audited (answer_of x) is.answered) ∙ after_is im lent log_lent n audited is.reply;
      most = λ z. absurd (is.answered (ap (λ (p : AuditReply). p.number) is.reply ∙ z));
    }

-- The audit is done, and the wrong counts were counted.
module _ (im : List ℕ) (lent log_lent n : ℕ) (ws : List ℕ) (a : Reply) (is : AuditIs im lent ws (Ok a)) (e : ℕ) (c : WrongCounts a.ledger e) where
  abbrev audited : AuditReply
  audited = with_ledger ws (Ok a)

  abbrev wrongs : List Change
  wrongs = corrections (counted_of a.ledger)

  entries-most : length (corrections (audit im lent).objects) ≤ objects_most
  entries-most = omega (arith, ap (λ (p : AuditReply). length (corrections p.objects)) is.reply, is.placed.fits)

  pub log-short : log_lent < 2 * e → (list log : List ℕ) → log ≡ replicate log_lent 0 →
      MendIs im lent log_lent n (handed lent 0 list) log im (Err (fault 18 no_place))
  log-short h list log f = record {
    reply = refused-is im lent log_lent (fault 18 no_place) list log f
        ∙ sym (after-short im lent log_lent n audited (omega arith)) ∙ after_is im lent log_lent n audited is.reply;
    most = λ _. entries-most;
  }

  pub mended-is : (log im' : List ℕ) (w : ℕ) → 2 * e ≤ log_lent → w ≡ min n e → log ≡ padded log_lent (log_words wrongs) → NewsFit wrongs →
      im' ≡ written im (changes w log) → MendIs im lent log_lent n ws log im' (Ok (record { block_count = a.block_count; entries = e; writes = w }))
  mended-is log im' w h q l f g =
      let k : w ≤ length wrongs = omega arith in
      let v : im' ≡ written im (take w wrongs) = g ∙ rw (l, changes-written w wrongs _ k f) in
      let p = c.wrong in
      record {
        reply = rw (v, l, q, p) (sym (after-done im lent log_lent n audited (omega arith)) ∙ after_is im lent log_lent n audited is.reply);
        most = λ _. entries-most;
      }
