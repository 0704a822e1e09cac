-- The reply in C of a damage report: with the words that a list has, and the same with more.
use Prim.Native.Nat.{ℕ, ◌*◌, ◌/◌, ◌≤◌, ◌<◌}
use mathlib.Core.Path.{◌≡◌, refl, ap, ◌∙◌}
use mathlib.Core.List.{List, []}
use native.Mathlib.Omega.{arith}
use lib.ListN.{length, take, replicate}
use Rattle.format.specs.Blocks.{Block, room_of, block_list}
use Rattle.format.specs.Walk.{Outcome, done, refused, run}
use Rattle.format.specs.Superblock.{Superblock, Opening, opened, not_opened, open_image}
use Rattle.format.specs.Ledger.{Linked}
use Rattle.format.specs.Audit.{audit_walk}
use Rattle.format.specs.Front.{padded_bytes, CReply}
use Rattle.format.specs.Report.{ReportReply, report_end, report_opened, report, c_report}
use Rattle.walk.specs.Lent.{left}
use Rattle.laws.proofs.Growth.{run-grown}
use Rattle.laws.proofs.MoreRoom.{HadRoom, more_room}
use Rattle.report.specs.Report.{fields_of, reply_of, ReportedIs}
use Rattle.report.specs.declared.Reported.{Reported}
use Rattle.front.proofs.Lent.{room_of-room, room-lent, list-bytes, used-bytes}
use Rattle.front.proofs.Ended.{too_short, long-enough}
use Rattle.front.proofs.Call.{Call, as-good, all_room}
use Rattle.front_report.specs.With.{words_of, Written, written}

-- a reply has the blocks entered in its list, whatever its answer, and their words are lent
record Keeps (lent : ℕ) (p : ReportReply) : Type 0 where
  pub blocks : List Block
  pub fits : 4 * length blocks ≤ lent
  pub count : p.block_count ≡ length blocks
  pub list : p.list ≡ block_list lent blocks

-- the words of the blocks are the whole list's bytes
words-used : (l lent count : ℕ) (ws : List ℕ) (bs : List Block) → 4 * length bs ≤ lent → lent ≤ l / 8 → count ≡ length bs → ws ≡ block_list lent bs →
    padded_bytes l (take (4 * count) ws) ≡ padded_bytes l ws
words-used l lent count ws bs f h e g = rw (e, g) (used-bytes l lent bs f h)

-- the walk of an image with this superblock, and its room
module _ (im : List ℕ) (s : Superblock) where
  abbrev walked : ℕ → Outcome (List Linked)
  walked lent = run im s.end_of_file (room_of lent) (audit_walk s) []

  walked-fits : (lent : ℕ) → length (left (walked lent)) ≤ room_of lent
  walked-fits lent = (run-grown im s.end_of_file (room_of lent) (audit_walk s) [] (omega arith)).fits

module _ (im : List ℕ) (lent : ℕ) where
  end-keeps : (o : Outcome (List Linked)) → length (left o) ≤ room_of lent → Keeps lent (report_end im lent o)
  end-keeps (done os bs) f = record { blocks = bs; fits = omega (arith, f, room-lent lent); count = refl; list = refl }
  end-keeps (refused x bs) f = record { blocks = bs; fits = omega (arith, f, room-lent lent); count = refl; list = refl }

  opened-keeps : (o : Opening) → Keeps lent (report_opened im lent o)
  opened-keeps (opened s) = end-keeps (walked im s lent) (walked-fits im s lent)
  opened-keeps (not_opened n) = record { blocks = []; fits = omega arith; count = refl; list = refl }

  report-keeps : (p : ReportReply) → p ≡ report im lent → Keeps lent p
  unfolding report
  report-keeps p e = rw e (opened-keeps (open_image im))

-- what is written, as the reply in C
abbrev as_reply : Written → CReply
as_reply x = record { number = 0; list = x.list; reply = x.reply }

-- Slices of l and r bytes.
module _ (im : List ℕ) (l r : ℕ) where
  pub short-reply : (list reply : List ℕ) → r / 8 < 8 → list ≡ replicate l 0 → reply ≡ replicate r 0 →
      ◌≡◌ {A = CReply} (record { number = 13; list = list; reply = reply }) (c_report im l r)
  unfolding c_report
  short-reply list reply = too_short l r 8 _ list reply

  -- What the report left in a list of so many words and in the arrays of the ledger.
  module _ (lent : ℕ) (h : lent ≤ l / 8) (ws xs ss ts : List ℕ) (a : Reported) (d : ReportedIs im lent ws xs ss ts a) where
    keeps : Keeps lent (reply_of ws xs ss ts (fields_of a))
    keeps = report-keeps im lent (reply_of ws xs ss ts (fields_of a)) d.reply

    pub reply-written : (list reply : List ℕ) → list ≡ padded_bytes l (take (4 * a.block_count) ws) → reply ≡ padded_bytes r (words_of a) →
        ◌≡◌ {A = Written} (record { answer = a.answer; list = list; reply = reply }) (written l r (report im lent))
    reply-written list reply e f =
        let used = words-used l lent a.block_count ws keeps.blocks keeps.fits h keeps.count keeps.list in
        rw (← d.reply, e, f, used)

  -- An image with this superblock: a call like the others.
  module _ (s : Superblock) where
    same : (lent more : ℕ) (o : Outcome (List Linked)) → lent ≤ l / 8 → more ≤ l / 8 → 4 * length (left o) ≤ lent → 4 * length (left o) ≤ more →
        written l r (report_end im lent o) ≡ written l r (report_end im more o)
    same lent more (done os bs) h k f g = rw (list-bytes l lent bs f h, list-bytes l more bs g k)
    same lent more (refused x bs) h k f g = rw (list-bytes l lent bs f h, list-bytes l more bs g k)

    told : (lent : ℕ) (o : Outcome (List Linked)) → ((report_end im lent o).answer ≡ 13 → ⊥) → HadRoom o
    told lent (done os bs) h = tt
    told lent (refused x bs) h = h

    call : Call l (List Linked) Written
    call = record {
      run = walked im s;
      end = λ lent o. written l r (report_end im lent o);
      number = λ x. x.answer;
      room = λ lent. ap (λ (m : ℕ). run im s.end_of_file m (audit_walk s) []) (room_of-room lent);
      fits = walked-fits im s;
      more = λ lent lent' h had. more_room im s.end_of_file (room_of lent) (room_of lent') h (audit_walk s) [] had;
      same = same;
      told = told;
    }

  -- an image that can't be opened has no blocks, so that no room matters
  no_blocks : (lent more n : ℕ) → lent ≤ l / 8 → more ≤ l / 8 →
      written l r (report_opened im lent (not_opened n)) ≡ written l r (report_opened im more (not_opened n))
  no_blocks lent more n h k = rw (list-bytes l lent [] (omega arith) h, list-bytes l more [] (omega arith) k)

  opened-few : (o : Opening) (m all : ℕ) → m ≤ all → 4 * all ≤ l / 8 → ((report_opened im (4 * m) o).answer ≡ 13 → ⊥) →
      written l r (report_opened im (4 * m) o) ≡ written l r (report_opened im (4 * all) o)
  unfolding call
  opened-few (opened s) m all h k roomy = as-good (call s) m all h k roomy
  opened-few (not_opened n) m all h k roomy = no_blocks (4 * m) (4 * all) n (omega arith) k

  opened-all : (o : Opening) (all : ℕ) → all ≡ room_of (l / 8) → written l r (report_opened im (4 * all) o) ≡ written l r (report_opened im (l / 8) o)
  unfolding call
  opened-all (opened s) all e = all_room (call s) all e
  opened-all (not_opened n) all e = no_blocks (4 * all) (l / 8) n (omega (arith, e, room-lent (l / 8))) (omega arith)

  -- what is written with room for m blocks is that with room for more, if the answer isn't for want of room
  pub few-reply : (m all : ℕ) (x : Written) → x ≡ written l r (report im (4 * m)) → m ≤ all → 4 * all ≤ l / 8 → (x.answer ≡ 13 → ⊥) →
      x ≡ written l r (report im (4 * all))
  unfolding report
  few-reply m all x is h k roomy = is ∙ opened-few (open_image im) m all h k (λ q. roomy (ap (λ (y : Written). y.answer) is ∙ q))

  -- what is written with all the room is the call's
  pub whole-reply : 8 ≤ r / 8 → (all : ℕ) (x : Written) → x ≡ written l r (report im (4 * all)) → all ≡ room_of (l / 8) →
      ◌≡◌ {A = CReply} (record { number = 0; list = x.list; reply = x.reply }) (c_report im l r)
  unfolding c_report report
  whole-reply long all x is e = ap as_reply (is ∙ opened-all (open_image im) all e) ∙ long-enough l r 8 _ long
