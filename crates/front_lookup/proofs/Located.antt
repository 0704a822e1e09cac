-- The reply in C of a lookup: with the words that a list has, and the same with more.
use Prim.Native.Nat.{ℕ, ◌*◌, ◌/◌, ◌≤◌, ◌<◌}
use mathlib.Core.Path.{◌≡◌, ap, ◌∙◌}
use mathlib.Core.List.{List, [], ◌∷◌}
use native.Mathlib.Omega.{arith}
use lib.ListN.{replicate}
use Rattle.format.specs.Blocks.{room_of}
use Rattle.format.specs.Walk.{answer_of, met_of, Outcome, done, refused}
use Rattle.format.specs.Path.{parse_path}
use Rattle.format.specs.Lookup as lookups
use Rattle.format.specs.Lookup.{locate_walk, lookup_run}
use Rattle.format.specs.Answers.{lookup_end, lookup}
use Rattle.format.specs.Front.{padded_bytes, refusal_words, CReply, c_lookup_end, c_lookup}
use Rattle.laws.proofs.MoreRoom.{HadRoom}
use Rattle.laws.proofs.MoreRuns.{lookup-run-more}
use Rattle.words.proofs.Words.{padded-zeros}
use Rattle.lookup.specs.Lookup.{reply_of}
use Rattle.lookup.specs.declared.lookup.Located.{Located}
use Rattle.walk.proofs.Handed.{handed-none}
use Rattle.front.proofs.Ended.{too_short, long-enough, refused-end}
use Rattle.std.specs.Prelude.{Ok, Err}
use Rattle.format.specs.declared.Refusal.{Refusal}
use Rattle.front.proofs.Follow.{path_room, path-fits}
use Rattle.front.proofs.Call.{Call, as-good, all_room}

-- Slices of l and r bytes.
module _ (im path : List ℕ) (l r : ℕ) where
  pub short-reply : (list reply : List ℕ) → r / 8 < 3 → list ≡ replicate l 0 → reply ≡ replicate r 0 →
      ◌≡◌ {A = CReply} (record { number = 13; list = list; reply = reply }) (c_lookup im path l r)
  unfolding c_lookup
  short-reply list reply = too_short l r 3 _ list reply

  -- What the lookup returned, with so many words lent.
  module _ (lent : ℕ) (h : lent ≤ l / 8) where
    pub done-reply : (a : Located) → reply_of (replicate lent 0) (Ok a) ≡ lookup im path lent → (list reply : List ℕ) → list ≡ replicate l 0 →
        reply ≡ padded_bytes r (0 ∷ a.kind ∷ a.address ∷ []) →
        ◌≡◌ {A = CReply} (record { number = 0; list = list; reply = reply }) (c_lookup_end l r (lookup im path lent))
    done-reply a d list reply e f = rw (← d, e, f, padded-zeros l lent (omega arith))

    pub refused-reply : 3 ≤ r / 8 → (x : Refusal) → reply_of (replicate lent 0) (Err x) ≡ lookup im path lent → (list reply : List ℕ) → list ≡ replicate l 0 →
        reply ≡ padded_bytes r (refusal_words (answer_of x) (met_of x)) →
        ◌≡◌ {A = CReply} (record { number = answer_of x; list = list; reply = reply }) (c_lookup_end l r (lookup im path lent))
    refused-reply long x d list reply e f = rw (← d, ← handed-none lent []) (refused-end l r lent 3 h long [] x list reply e f)

  same : (lent more : ℕ) (o : Outcome lookups.Located) → lent ≤ l / 8 → more ≤ l / 8 →
      c_lookup_end l r (lookup_end lent o) ≡ c_lookup_end l r (lookup_end more o)
  same lent more (done p bs) h k = rw (padded-zeros l lent (omega arith), padded-zeros l more (omega arith))
  same lent more (refused x bs) h k = rw (padded-zeros l lent (omega arith), padded-zeros l more (omega arith))

  told : (lent : ℕ) (o : Outcome lookups.Located) → ((lookup_end lent o).number ≡ 13 → ⊥) → HadRoom o
  told lent (done p bs) h = tt
  told lent (refused x bs) h = h

  call : Call l lookups.Located CReply
  unfolding lookup_run
  call = record {
    run = lookup_run im path;
    end = λ lent o. c_lookup_end l r (lookup_end lent o);
    number = λ x. x.number;
    room = λ lent. path_room im lent locate_walk _ (parse_path path);
    fits = λ lent. path-fits im lent locate_walk _ (omega arith) (parse_path path);
    more = λ lent lent' h had. lookup-run-more im lent lent' h path had;
    same = λ lent lent' o h k _ _. same lent lent' o h k;
    told = told;
  }

  -- the reply with room for m blocks is that with room for more, if it isn't for want of room
  pub few-reply : (m all : ℕ) (x : CReply) → x ≡ c_lookup_end l r (lookup im path (4 * m)) → m ≤ all → 4 * all ≤ l / 8 → (x.number ≡ 13 → ⊥) →
      x ≡ c_lookup_end l r (lookup im path (4 * all))
  unfolding lookup call
  few-reply m all x is h k roomy = is ∙ as-good call m all h k (λ q. roomy (ap (λ (y : CReply). y.number) is ∙ q))

  -- the reply with all the room is the call's
  pub whole-reply : 3 ≤ r / 8 → (all : ℕ) (x : CReply) → x ≡ c_lookup_end l r (lookup im path (4 * all)) → all ≡ room_of (l / 8) → x ≡ c_lookup im path l r
  unfolding c_lookup lookup call
  whole-reply long all x is e = is ∙ all_room call all e ∙ long-enough l r 3 _ long
