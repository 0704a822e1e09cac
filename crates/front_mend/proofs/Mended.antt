-- The reply in C of a mending: with the words that a list and its log have, and the same with more.
use Prim.Native.Nat.{ℕ, zero, suc, ◌*◌, ◌/◌, ◌-◌, ◌≤◌, ◌<◌, min}
use mathlib.Core.Path.{◌≡◌, refl, ap, sym, ◌∙◌}
use mathlib.Core.Bool.{Bool, true, false}
use mathlib.Core.List.{List, [], ◌∷◌}
use native.Mathlib.Omega.{arith}
use borrow.Author.Tests.{le-leb, lt-leb, leb-true, leb-false}
use lib.ListN.{length, take, replicate}
use lib.Seq.{take_at, length-take-le}
use lib.Dec.{leb}
use Rattle.format.specs.Limits.{objects_most}
use Rattle.std.specs.Prelude.{if◌then◌else◌}
use Rattle.format.specs.Bytes.{padded}
use Rattle.format.specs.Blocks.{room_of, block_list}
use Rattle.format.specs.Walk.{answer_of, met_of, Outcome, done, refused}
use Rattle.format.specs.Ledger.{Linked}
use Rattle.format.specs.Audit.{Counted, counted_in, audit_run}
use Rattle.format.specs.Log.{Change, log_words}
use Rattle.format.specs.Mend.{corrections}
use Rattle.format.specs.Answers.{AuditReply, MendReply, audit_end, audit, not_mended, mended_by, mend_after, mend}
use Rattle.format.specs.Front.{padded_bytes, refusal_words, reply_words, CMend, c_mend_end, c_mend}
use Rattle.walk.specs.Lent.{left}
use Rattle.laws.proofs.MoreRoom.{HadRoom}
use Rattle.laws.proofs.MoreRuns.{audit-run-more}
use Rattle.words.proofs.Words.{padded-twice, padded-zeros}
use Rattle.undo_log.proofs.LogLaws.{length-log_words}
use Rattle.front.proofs.Lent.{room-lent, list-bytes, used-bytes}
use Rattle.front.proofs.Ended.{refusal-words}
use Rattle.std.specs.Prelude.{Ok, Err}
use Rattle.format.specs.declared.Refusal.{Refusal}
use Rattle.mend.specs.Mended.{reply_of}
use Rattle.mend.specs.declared.Mended.{Mended}
use Rattle.front.proofs.AuditRoom.{run_room, run_fits}
use Rattle.front.proofs.Call.{Call, as-good, all_room}

-- the words of the log that are lent, of so many
abbrev pub log_room : ℕ → ℕ
log_room k = min k (2 * objects_most)

-- the local log has them
pub log-most : 2 * objects_most ≤ 2 * objects_most
log-most = omega arith

pub log-words : (zs : List ℕ) (m k : ℕ) → m ≡ log_room k → 2 * objects_most ≤ length zs → length (take m zs) ≡ log_room k
log-words zs m k e h = length-take-le m zs (omega arith) ∙ e

-- what fits the words lent fits the list that came back
pub within : (n k lent back : ℕ) → back ≡ lent → lent ≡ k → n ≤ k → n ≤ back
within n k lent back e f h = omega arith

-- the bytes of the words that a reply has used, in slices of l, g and r bytes
abbrev used : ℕ → ℕ → ℕ → MendReply → CMend
used l g r x = record {
  number = x.number;
  list = padded_bytes l (take (4 * x.block_count) x.list);
  log = padded_bytes g (take (2 * x.entries) x.log);
  reply = padded_bytes r (reply_words x.number x.met (x.block_count ∷ x.entries ∷ x.writes ∷ []));
  image = x.image;
}

-- the entries of a reply x fit, and the words used are the bytes of the reply y
pub record Taken (l g r : ℕ) (x y : MendReply) : Type 0 where
  pub entries_fit : 2 * x.entries ≤ log_room (g / 8)
  pub bytes : used l g r x ≡ c_mend_end l g r y

-- Slices of l, g and r bytes, and a write limit.
module _ (im : List ℕ) (l g r n : ℕ) where
  -- the words of the log, padded to the words lent and to all, are the same bytes
  log-bytes : (cs : List Change) → 2 * length cs ≤ log_room (g / 8) →
      padded_bytes g (take (2 * length cs) (padded (log_room (g / 8)) (log_words cs))) ≡ padded_bytes g (padded (g / 8) (log_words cs))
  log-bytes cs h =
      let k : length (log_words cs) ≡ 2 * length cs = omega (arith, length-log_words cs) in
      let t : take (2 * length cs) (padded (log_room (g / 8)) (log_words cs)) ≡ log_words cs =
      take_at (log_words cs) (replicate (log_room (g / 8) - length (log_words cs)) 0) (2 * length cs) k in
      rw t (sym (padded-twice g (g / 8) (log_words cs) (omega arith) (omega arith)))

  no_words : (k lent : ℕ) → lent ≤ k / 8 → padded_bytes k [] ≡ padded_bytes k (replicate lent 0)
  no_words k lent h = padded-zeros k 0 (omega arith) ∙ sym (padded-zeros k lent (omega arith))

  -- an audit's reply with this list
  abbrev audit_with : ℕ → ℕ → List Counted → ℕ → List ℕ → AuditReply
  audit_with met count os number ws = record { number = number; met = met; block_count = count; objects = os; list = ws }

  abbrev ending : ℕ → ℕ → Bool → AuditReply → MendReply
  ending lent log_lent t a =
      let cs = corrections a.objects in
      if t then mended_by im log_lent a cs (min n (length cs)) else not_mended im lent log_lent 18 0

  -- With so many words lent, and with a log of as many words as its room: the log's own words are the same bytes.
  module _ (lent : ℕ) (h : lent ≤ l / 8) where
    not-mended : (number met : ℕ) → Taken l g r (not_mended im lent (log_room (g / 8)) (suc number) met) (not_mended im lent (g / 8) (suc number) met)
    not-mended number met = record {
      entries_fit = omega arith;
      bytes = rw (no_words l lent h, no_words g (g / 8) (omega arith));
    }

    module _ (met count : ℕ) (os : List Counted) (list : List ℕ) (same : padded_bytes l (take (4 * count) list) ≡ padded_bytes l list)
        (most : length (corrections os) ≤ objects_most) where
      abbrev wrong : List Change
      wrong = corrections os

      ends-alike : (number : ℕ) (t : Bool) → (t ≡ true → 2 * length wrong ≤ log_room (g / 8)) →
          Taken l g r (ending lent (log_room (g / 8)) t (audit_with met count os number list)) (ending lent (g / 8) t (audit_with met count os number list))
      ends-alike number true k = record {
        entries_fit = k refl;
        bytes = rw (same, log-bytes wrong (k refl));
      }
      ends-alike number false k = not-mended 17 0

      -- the log lent is too short exactly if the whole log is
      tests-alike : leb (2 * length wrong) (g / 8) ≡ leb (2 * length wrong) (log_room (g / 8))
      tests-alike = go (leb (2 * length wrong) (log_room (g / 8))) refl
        where
          go : (t : Bool) → leb (2 * length wrong) (log_room (g / 8)) ≡ t → leb (2 * length wrong) (g / 8) ≡ t
          go true e = le-leb (2 * length wrong) (g / 8) (omega (arith, leb-true (2 * length wrong) (log_room (g / 8)) e))
          go false e = lt-leb (2 * length wrong) (g / 8) (omega (arith, leb-false (2 * length wrong) (log_room (g / 8)) e))

      after-alike : (number given : ℕ) →
          Taken l g r (mend_after im lent (log_room (g / 8)) n number (audit_with met count os given list))
          (mend_after im lent (g / 8) n number (audit_with met count os given list))
      after-alike zero given = rw tests-alike (ends-alike given (leb (2 * length wrong) (log_room (g / 8))) (leb-true _ _))
      after-alike (suc number) given = not-mended number met

  -- the mending after an audit with this outcome
  abbrev mend_end : ℕ → ℕ → Outcome (List Linked) → MendReply
  mend_end lent log_lent o = mend_after im lent log_lent n (audit_end im lent o).number (audit_end im lent o)

  -- no more wrong counts than objects, where the audit is done
  abbrev Most : AuditReply → Type 0
  Most a = a.number ≡ 0 → length (corrections a.objects) ≤ objects_most

  end-taken : (lent : ℕ) → lent ≤ l / 8 → (o : Outcome (List Linked)) → Most (audit_end im lent o) → length (left o) ≤ room_of lent →
      Taken l g r (mend_end lent (log_room (g / 8)) o) (mend_end lent (g / 8) o)
  unfolding corrections
  end-taken lent h (done os bs) m f =
      let fits : 4 * length bs ≤ lent = omega (arith, room-lent lent) in
      after-alike lent h 0 (length bs) (counted_in im os) (block_list lent bs) (used-bytes l lent bs fits h) (m refl) 0 0
  end-taken lent h (refused x bs) m f =
      after-alike lent h (met_of x) 0 [] (replicate lent 0) (no_words l lent h) (omega arith) (answer_of x) (answer_of x)

  -- what the mending returned and left, with these words lent
  pub taken : (lent log_lent : ℕ) (x : MendReply) → lent ≤ l / 8 → log_lent ≡ log_room (g / 8) → x ≡ mend im lent log_lent n → Most (audit im lent) →
      Taken l g r x (mend im lent (g / 8) n)
  unfolding mend audit
  taken lent log_lent x h q e m = rw (e, q) (end-taken lent h (audit_run im lent) m (run_fits im lent))

  -- What the mending returned and left in its list, its log and the image.
  module _ (lent : ℕ) (list' log' im' : List ℕ) where
    pub done-reply : (a : Mended) → Taken l g r (reply_of list' log' im' (Ok a)) (mend im lent (g / 8) n) → (list log reply : List ℕ) →
        list ≡ padded_bytes l (take (4 * a.block_count) list') → log ≡ padded_bytes g (take (2 * a.entries) log') →
        reply ≡ padded_bytes r (a.block_count ∷ a.entries ∷ a.writes ∷ []) →
        ◌≡◌ {A = CMend} (record { number = 0; list = list; log = log; reply = reply; image = im' }) (c_mend_end l g r (mend im lent (g / 8) n))
    done-reply a t list log reply e f k = first ∙ t.bytes
      where
        first : ◌≡◌ {A = CMend} (record { number = 0; list = list; log = log; reply = reply; image = im' }) (used l g r (reply_of list' log' im' (Ok a)))
        first = rw (e, f, k) refl

    pub refused-reply : 3 ≤ r / 8 → (x : Refusal) → Taken l g r (reply_of list' log' im' (Err x)) (mend im lent (g / 8) n) → (list log reply : List ℕ) →
        list ≡ replicate l 0 → log ≡ replicate g 0 → reply ≡ padded_bytes r (refusal_words (answer_of x) (met_of x)) →
        ◌≡◌ {A = CMend} (record { number = answer_of x; list = list; log = log; reply = reply; image = im' })
        (c_mend_end l g r (mend im lent (g / 8) n))
    refused-reply long x t list log reply e f k = first ∙ t.bytes
      where
        first : ◌≡◌ {A = CMend} (record { number = answer_of x; list = list; log = log; reply = reply; image = im' })
            (used l g r (reply_of list' log' im' (Err x)))
        first =
            let no-list = padded-zeros l 0 (omega arith) in
            let no-log = padded-zeros g 0 (omega arith) in
            rw (e, f, k, no-list, no-log, refusal-words r (answer_of x) (met_of x) 3 (omega arith)) refl

  pub short-reply : (list log reply : List ℕ) → r / 8 < 3 → list ≡ replicate l 0 → log ≡ replicate g 0 → reply ≡ replicate r 0 →
      ◌≡◌ {A = CMend} (record { number = 13; list = list; log = log; reply = reply; image = im }) (c_mend im l g r n)
  unfolding c_mend
  short-reply list log reply h e f k = rw (e, f, k, lt-leb 3 (r / 8) h)

  -- Two audits that differ in their lists alone, which are the same bytes.
  module _ (lent more : ℕ) (h : lent ≤ l / 8) (k : more ≤ l / 8) (met count : ℕ) (os : List Counted) (list list' : List ℕ)
      (same : padded_bytes l list ≡ padded_bytes l list') where
    not_same : (number met : ℕ) → c_mend_end l g r (not_mended im lent (g / 8) number met) ≡ c_mend_end l g r (not_mended im more (g / 8) number met)
    not_same number met = rw (padded-zeros l lent (omega arith), padded-zeros l more (omega arith))

    after_same : (number given : ℕ) →
        c_mend_end l g r (mend_after im lent (g / 8) n number (audit_with met count os given list)) ≡
        c_mend_end l g r (mend_after im more (g / 8) n number (audit_with met count os given list'))
    after_same zero given = go (leb (2 * length (corrections os)) (g / 8))
      where
        go : (t : Bool) → c_mend_end l g r (ending lent (g / 8) t (audit_with met count os given list)) ≡
            c_mend_end l g r (ending more (g / 8) t (audit_with met count os given list'))
        go true = rw same
        go false = not_same 18 0
    after_same (suc number) given = not_same (suc number) met

  -- a run that is the same with other words lent gives the same bytes
  end_same : (lent more : ℕ) (o : Outcome (List Linked)) → lent ≤ l / 8 → more ≤ l / 8 → 4 * length (left o) ≤ lent → 4 * length (left o) ≤ more →
      c_mend_end l g r (mend_end lent (g / 8) o) ≡ c_mend_end l g r (mend_end more (g / 8) o)
  end_same lent more (done os bs) h k f f' =
      after_same lent more h k 0 (length bs) (counted_in im os) (block_list lent bs) (block_list more bs)
      (list-bytes l lent bs f h ∙ sym (list-bytes l more bs f' k)) 0 0
  end_same lent more (refused x bs) h k f f' =
      after_same lent more h k (met_of x) 0 [] (replicate lent 0) (replicate more 0) (sym (no_words l lent h) ∙ no_words l more k) (answer_of x) (answer_of x)

  -- a mending that is refused leaves the image
  after-image : (lent log_lent k : ℕ) (a : AuditReply) → ((mend_after im lent log_lent n k a).number ≡ 0 → ⊥) → (mend_after im lent log_lent n k a).image ≡ im
  after-image lent log_lent zero a z = go (leb (2 * length (corrections a.objects)) log_lent) z
    where
      go : (t : Bool) → ((ending lent log_lent t a).number ≡ 0 → ⊥) → (ending lent log_lent t a).image ≡ im
      go true z = absurd (z refl)
      go false z = refl
  after-image lent log_lent (suc k) a z = refl

  pub refused-image : (lent : ℕ) (x : CMend) → x ≡ c_mend_end l g r (mend im lent (g / 8) n) → (x.number ≡ 0 → ⊥) → x.image ≡ im
  unfolding mend
  refused-image lent x is z =
      ap (λ (y : CMend). y.image) is
      ∙ after-image lent (g / 8) (audit im lent).number (audit im lent) (λ q. z (ap (λ (y : CMend). y.number) is ∙ q))

  told : (lent : ℕ) (o : Outcome (List Linked)) → ((mend_end lent (g / 8) o).number ≡ 13 → ⊥) → HadRoom o
  told lent (done os bs) h = tt
  told lent (refused x bs) h = λ q. h (rw q)

  call : Call l (List Linked) CMend
  call = record {
    run = audit_run im;
    end = λ lent o. c_mend_end l g r (mend_end lent (g / 8) o);
    number = λ x. x.number;
    room = run_room im;
    fits = run_fits im;
    more = audit-run-more im;
    same = end_same;
    told = told;
  }

  -- the reply with room for m blocks is that with room for more, if it isn't for want of room
  pub few-reply : (m all : ℕ) (x : CMend) → x ≡ c_mend_end l g r (mend im (4 * m) (g / 8) n) → m ≤ all → 4 * all ≤ l / 8 → (x.number ≡ 13 → ⊥) →
      x ≡ c_mend_end l g r (mend im (4 * all) (g / 8) n)
  unfolding mend audit call
  few-reply m all x is h k roomy = is ∙ as-good call m all h k (λ q. roomy (ap (λ (y : CMend). y.number) is ∙ q))

  -- the reply with all the room is the call's
  pub whole-reply : 3 ≤ r / 8 → (all : ℕ) (x : CMend) → x ≡ c_mend_end l g r (mend im (4 * all) (g / 8) n) → all ≡ room_of (l / 8) → x ≡ c_mend im l g r n
  unfolding c_mend mend audit call
  whole-reply long all x is e = is ∙ all_room call all e ∙ rw (le-leb 3 (r / 8) long)

-- slices that came back with the same lengths, and the image as it was
pub same-slices : (im im' : List ℕ) (l g r l' g' r' lent n : ℕ) (x : CMend) → im' ≡ im → l' ≡ l → g' ≡ g → r' ≡ r →
    x ≡ c_mend_end l' g' r' (mend im' lent (g' / 8) n) → x ≡ c_mend_end l g r (mend im lent (g / 8) n)
same-slices im im' l g r l' g' r' lent n x i e f h q = rw (← i, ← e, ← f, ← h) q
