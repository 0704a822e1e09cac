-- The reply in C of an audit: with the words that a list has, and the same with more.
use Prim.Native.Nat.{ℕ, ◌+◌, ◌*◌, ◌/◌, ◌≤◌, ◌<◌}
use mathlib.Core.Path.{◌≡◌, refl, ap, ◌∙◌}
use mathlib.Core.List.{List, ◌∷◌}
use native.Mathlib.Omega.{arith}
use lib.ListN.{length, take, replicate}
use Rattle.format.specs.Limits.{objects_most}
use Rattle.format.specs.Blocks.{room_of}
use Rattle.format.specs.Walk.{answer_of, met_of, Outcome, done, refused}
use Rattle.format.specs.Ledger.{Linked}
use Rattle.format.specs.Audit.{audit_run}
use Rattle.format.specs.Answers.{AuditReply, audit_end, audit}
use Rattle.format.specs.Front.{padded_bytes, refusal_words, object_words, CReply, c_audit_end, c_audit}
use Rattle.ledger.specs.Report.{counted_places}
use Rattle.walk.specs.Lent.{left, handed}
use Rattle.laws.proofs.MoreRoom.{HadRoom}
use Rattle.laws.proofs.MoreRuns.{audit-run-more}
use Rattle.words.proofs.Words.{padded-zeros}
use Rattle.audit.specs.Audit.{AuditedIs, reply_of}
use Rattle.audit.specs.declared.Audited.{Audited}
use Rattle.front.proofs.Reply.{length-places}
use Rattle.front.proofs.Lent.{list-bytes}
use Rattle.front.proofs.AuditRoom.{run_room, run_fits}
use Rattle.front.proofs.Ended.{too_short, long-enough, refused-end, Ends, list-used}
use Rattle.std.specs.Prelude.{Ok, Err}
use Rattle.format.specs.declared.Refusal.{Refusal}
use Rattle.front.proofs.Call.{Call, as-good, all_room}

-- the number, the block count and the list of a reply
ends : (im : List ℕ) (lent : ℕ) (o : Outcome (List Linked)) (a : AuditReply) → a ≡ audit_end im lent o → Ends lent o a.number a.block_count a.list
ends im lent (done os bs) a e = rw e (refl, refl, refl)
ends im lent (refused x bs) a e = rw e (refl, refl, refl)

audit-ends : (im : List ℕ) (lent : ℕ) (a : AuditReply) → a ≡ audit im lent → Ends lent (audit_run im lent) a.number a.block_count a.list
unfolding audit
audit-ends im lent a e = ends im lent (audit_run im lent) a e

-- Slices of l and r bytes.
module _ (im : List ℕ) (l r : ℕ) where
  pub short-reply : (list reply : List ℕ) → r / 8 < 2 + 3 * objects_most → list ≡ replicate l 0 → reply ≡ replicate r 0 →
      ◌≡◌ {A = CReply} (record { number = 13; list = list; reply = reply }) (c_audit im l r)
  unfolding c_audit
  short-reply list reply = too_short l r (2 + 3 * objects_most) _ list reply

  -- What the audit left in a list of so many words and in the arrays of the ledger.
  module _ (lent : ℕ) (h : lent ≤ l / 8) (ws xs ss ts : List ℕ) where
    pub done-reply : (a : Audited) → AuditedIs im lent ws xs ss ts (Ok a) → (list reply : List ℕ) → list ≡ padded_bytes l (take (4 * a.block_count) ws) →
        reply ≡ padded_bytes r (a.block_count ∷ a.objects ∷ object_words (counted_places a.objects xs ss ts)) →
        ◌≡◌ {A = CReply} (record { number = 0; list = list; reply = reply }) (c_audit_end l r (audit im lent))
    done-reply a d list reply e f =
        let at-end = audit-ends im lent (reply_of ws xs ss ts (Ok a)) d.reply in
        let used = list-used l lent 0 a.block_count ws h (audit_run im lent) (run_fits im lent) at-end in
        rw (← d.reply, e, f, used, length-places a.objects xs ss ts)

    pub refused-reply : 2 + 3 * objects_most ≤ r / 8 → (x : Refusal) → AuditedIs im lent (handed lent 0 ws) xs ss ts (Err x) → (list reply : List ℕ) →
        list ≡ replicate l 0 → reply ≡ padded_bytes r (refusal_words (answer_of x) (met_of x)) →
        ◌≡◌ {A = CReply} (record { number = answer_of x; list = list; reply = reply }) (c_audit_end l r (audit im lent))
    unfolding object_words
    refused-reply long x d list reply e f = rw (← d.reply) (refused-end l r lent 2 h (omega arith) ws x list reply e f)

  same : (lent more : ℕ) (o : Outcome (List Linked)) → lent ≤ l / 8 → more ≤ l / 8 → 4 * length (left o) ≤ lent → 4 * length (left o) ≤ more →
      c_audit_end l r (audit_end im lent o) ≡ c_audit_end l r (audit_end im more o)
  same lent more (done os bs) h k f g = rw (list-bytes l lent bs f h, list-bytes l more bs g k)
  same lent more (refused x bs) h k f g = rw (padded-zeros l lent (omega arith), padded-zeros l more (omega arith))

  told : (lent : ℕ) (o : Outcome (List Linked)) → ((audit_end im lent o).number ≡ 13 → ⊥) → HadRoom o
  told lent (done os bs) h = tt
  told lent (refused x bs) h = h

  call : Call l (List Linked) CReply
  call = record {
    run = audit_run im;
    end = λ lent o. c_audit_end l r (audit_end im lent o);
    number = λ x. x.number;
    room = run_room im;
    fits = run_fits im;
    more = audit-run-more im;
    same = same;
    told = told;
  }

  -- the reply with room for m blocks is that with room for more, if it isn't for want of room
  pub few-reply : (m all : ℕ) (x : CReply) → x ≡ c_audit_end l r (audit im (4 * m)) → m ≤ all → 4 * all ≤ l / 8 → (x.number ≡ 13 → ⊥) →
      x ≡ c_audit_end l r (audit im (4 * all))
  unfolding audit call
  few-reply m all x is h k roomy = is ∙ as-good call m all h k (λ q. roomy (ap (λ (y : CReply). y.number) is ∙ q))

  -- the reply with all the room is the call's
  pub whole-reply : 2 + 3 * objects_most ≤ r / 8 → (all : ℕ) (x : CReply) → x ≡ c_audit_end l r (audit im (4 * all)) → all ≡ room_of (l / 8) →
      x ≡ c_audit im l r
  unfolding c_audit audit call
  whole-reply long all x is e = is ∙ all_room call all e ∙ long-enough l r (2 + 3 * objects_most) _ long
