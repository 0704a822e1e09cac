-- The reply in C of a description: with the words that a list has, and the same with more.
use Prim.Native.Nat.{ℕ, ◌+◌, ◌*◌, ◌/◌, ◌≤◌, ◌<◌}
use mathlib.Core.Path.{◌≡◌, refl, ap, ◌∙◌}
use mathlib.Core.List.{List, []}
use native.Mathlib.Omega.{arith}
use lib.ListN.{length, take, replicate}
use Rattle.format.specs.Limits.{rank_most}
use Rattle.format.specs.Blocks.{room_of}
use Rattle.format.specs.Walk.{answer_of, met_of, Outcome, done, refused}
use Rattle.format.specs.Path.{parse_path}
use Rattle.format.specs.Dataset.{Dataset}
use Rattle.format.specs.Describe.{describe_walk, describe_run}
use Rattle.format.specs.Answers.{DescribeReply, describe_end, describe}
use Rattle.format.specs.Front.{padded_bytes, refusal_words, description_words, CReply, c_describe_end, c_describe}
use Rattle.walk.specs.Lent.{left, handed}
use Rattle.laws.proofs.MoreRoom.{HadRoom}
use Rattle.laws.proofs.MoreRuns.{describe-run-more}
use Rattle.words.proofs.Words.{padded-zeros}
use Rattle.describe.specs.Describe.{reply_of}
use Rattle.describe.specs.declared.Description.{Description}
use Rattle.front.proofs.Lent.{list-bytes}
use Rattle.front.proofs.Follow.{path_room, path-fits}
use Rattle.front.proofs.Ended.{too_short, long-enough, refused-end, Ends, list-used}
use Rattle.std.specs.Prelude.{Ok, Err}
use Rattle.format.specs.declared.Refusal.{Refusal}
use Rattle.front.proofs.Call.{Call, as-good, all_room}

run_fits : (im path : List ℕ) (k : ℕ) → length (left (describe_run im path k)) ≤ room_of k
unfolding describe_run
run_fits im path k = path-fits im k describe_walk _ (omega arith) (parse_path path)

-- the number, the block count and the list of a reply
ends : (lent : ℕ) (o : Outcome Dataset) (a : DescribeReply) → a ≡ describe_end lent o → Ends lent o a.number a.block_count a.list
ends lent (done d bs) a e = rw e (refl, refl, refl)
ends lent (refused x bs) a e = rw e (refl, refl, refl)

describe-ends : (im path : List ℕ) (lent : ℕ) (a : DescribeReply) → a ≡ describe im path lent →
    Ends lent (describe_run im path lent) a.number a.block_count a.list
unfolding describe
describe-ends im path lent a e = ends lent (describe_run im path lent) a e

-- Slices of l and r bytes.
module _ (im path : List ℕ) (l r : ℕ) where
  pub short-reply : (list reply : List ℕ) → r / 8 < 10 + 2 * rank_most → list ≡ replicate l 0 → reply ≡ replicate r 0 →
      ◌≡◌ {A = CReply} (record { number = 13; list = list; reply = reply }) (c_describe im path l r)
  unfolding c_describe
  short-reply list reply = too_short l r (10 + 2 * rank_most) _ list reply

  -- What the description returned and left in a list of so many words.
  module _ (lent : ℕ) (h : lent ≤ l / 8) (ws : List ℕ) where
    pub done-reply : (a : Description) → reply_of ws (Ok a) ≡ describe im path lent → (list reply : List ℕ) →
        list ≡ padded_bytes l (take (4 * a.block_count) ws) → reply ≡ padded_bytes r (description_words (reply_of [] (Ok a))) →
        ◌≡◌ {A = CReply} (record { number = 0; list = list; reply = reply }) (c_describe_end l r (describe im path lent))
    done-reply a d list reply e f =
        let at-end = describe-ends im path lent (reply_of ws (Ok a)) d in
        let used = list-used l lent 0 a.block_count ws h (describe_run im path lent) (run_fits im path lent) at-end in
        rw (← d, e, f, used)

    pub refused-reply : 10 + 2 * rank_most ≤ r / 8 → (x : Refusal) → reply_of (handed lent 0 ws) (Err x) ≡ describe im path lent → (list reply : List ℕ) →
        list ≡ replicate l 0 → reply ≡ padded_bytes r (refusal_words (answer_of x) (met_of x)) →
        ◌≡◌ {A = CReply} (record { number = answer_of x; list = list; reply = reply }) (c_describe_end l r (describe im path lent))
    unfolding rank_most
    refused-reply long x d list reply e f = rw (← d) (refused-end l r lent 74 h long ws x list reply e f)

  same : (lent more : ℕ) (o : Outcome Dataset) → lent ≤ l / 8 → more ≤ l / 8 → 4 * length (left o) ≤ lent → 4 * length (left o) ≤ more →
      c_describe_end l r (describe_end lent o) ≡ c_describe_end l r (describe_end more o)
  same lent more (done d bs) h k f g = rw (list-bytes l lent bs f h, list-bytes l more bs g k)
  same lent more (refused x bs) h k f g = rw (padded-zeros l lent (omega arith), padded-zeros l more (omega arith))

  told : (lent : ℕ) (o : Outcome Dataset) → ((describe_end lent o).number ≡ 13 → ⊥) → HadRoom o
  told lent (done d bs) h = tt
  told lent (refused x bs) h = h

  call : Call l Dataset CReply
  unfolding describe_run
  call = record {
    run = describe_run im path;
    end = λ lent o. c_describe_end l r (describe_end lent o);
    number = λ x. x.number;
    room = λ lent. path_room im lent describe_walk _ (parse_path path);
    fits = run_fits im path;
    more = λ lent lent' h had. describe-run-more im lent lent' h path had;
    same = same;
    told = told;
  }

  -- the reply with room for m blocks is that with room for more, if it isn't for want of room
  pub few-reply : (m all : ℕ) (x : CReply) → x ≡ c_describe_end l r (describe im path (4 * m)) → m ≤ all → 4 * all ≤ l / 8 → (x.number ≡ 13 → ⊥) →
      x ≡ c_describe_end l r (describe im path (4 * all))
  unfolding describe call
  few-reply m all x is h k roomy = is ∙ as-good call m all h k (λ q. roomy (ap (λ (y : CReply). y.number) is ∙ q))

  -- the reply with all the room is the call's
  pub whole-reply : 10 + 2 * rank_most ≤ r / 8 → (all : ℕ) (x : CReply) → x ≡ c_describe_end l r (describe im path (4 * all)) → all ≡ room_of (l / 8) →
      x ≡ c_describe im path l r
  unfolding c_describe describe call
  whole-reply long all x is e = is ∙ all_room call all e ∙ long-enough l r (10 + 2 * rank_most) _ long
