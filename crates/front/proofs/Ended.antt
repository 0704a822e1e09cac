-- The reply in C of any call, from its number, its block list and its words.
use Prim.Native.Nat.{ℕ, zero, suc, ◌*◌, ◌/◌, ◌≤◌, ◌<◌}
use mathlib.Core.Path.{◌≡◌, refl, sym, ◌∙◌}
use mathlib.Core.List.{List}
use native.Mathlib.Omega.{arith}
use borrow.Author.Tests.{le-leb, lt-leb}
use lib.ListN.{length, take, replicate}
use lib.Dec.{leb}
use Rattle.std.specs.Prelude.{if◌then◌else◌}
use Rattle.format.specs.Blocks.{room_of, block_list}
use Rattle.format.specs.declared.Refusal.{Refusal}
use Rattle.format.specs.Walk.{answer_of, met_of, Outcome, done, refused}
use Rattle.format.specs.Front.{padded_bytes, refusal_words, reply_words, CReply, short_reply}
use Rattle.walk.specs.Lent.{left, handed}
use Rattle.walk.proofs.Handed.{handed-none}
use Rattle.words.proofs.Words.{padded-zeros}
use Rattle.front.proofs.Lent.{room-lent, used-bytes}

-- the bytes of a reply with this number, block met, list and words
abbrev pub ended : ℕ → ℕ → ℕ → ℕ → List ℕ → List ℕ → CReply
ended l r n met list words = record { number = n; list = padded_bytes l list; reply = padded_bytes r (reply_words n met words) }

-- what is written with a refusal, whose other words are zeros, as so many of the slice are
pub refusal-words : (r n met k : ℕ) → 8 * k ≤ r → padded_bytes r (reply_words n met (replicate k 0)) ≡ padded_bytes r (refusal_words n met)
refusal-words r zero met k h = padded-zeros r k h ∙ sym (padded-zeros r 0 (omega arith))
refusal-words r (suc n) met k h = refl

-- Slices of l and r bytes.
module _ (l r : ℕ) where
  -- a reply that is too short, and one that isn't
  pub too_short : (least : ℕ) (e : CReply) (list reply : List ℕ) → r / 8 < least → list ≡ replicate l 0 → reply ≡ replicate r 0 →
      ◌≡◌ {A = CReply} (record { number = 13; list = list; reply = reply }) (if leb least (r / 8) then e else short_reply l r)
  too_short least e list reply h p q = rw (p, q, lt-leb least (r / 8) h)

  pub long-enough : (least : ℕ) (e : CReply) → least ≤ r / 8 → e ≡ (if leb least (r / 8) then e else short_reply l r)
  long-enough least e h = rw (le-leb least (r / 8) h)

  -- The reply to a refusal with so many words lent, whatever the working list has, and with k other words.
  pub refused-end : (lent k : ℕ) → lent ≤ l / 8 → k ≤ r / 8 → (ws : List ℕ) (x : Refusal) (list reply : List ℕ) → list ≡ replicate l 0 →
      reply ≡ padded_bytes r (refusal_words (answer_of x) (met_of x)) →
      ◌≡◌ {A = CReply} (record { number = answer_of x; list = list; reply = reply }) (ended l r (answer_of x) (met_of x) (handed lent 0 ws) (replicate k 0))
  refused-end lent k h long ws x list reply e f =
      rw (e, f, handed-none lent ws, padded-zeros l lent (omega arith), refusal-words r (answer_of x) (met_of x) k (omega arith)) refl

-- the number, the block count and the list of a reply with so many words lent
abbrev pub Ends : {A : Type 0} → ℕ → Outcome A → ℕ → ℕ → List ℕ → Type 0
Ends lent (done a bs) n count list = (n ≡ 0) × (count ≡ length bs) × (list ≡ block_list lent bs)
Ends lent (refused m bs) n count list = (n ≡ answer_of m) × (count ≡ 0) × (list ≡ replicate lent 0)

-- A reply with so many words lent, no more than those of a slice of l bytes.
module _ {A : Type 0} (l lent n count : ℕ) (list : List ℕ) (h : lent ≤ l / 8) where
  -- the words of the blocks are the whole list's bytes
  pub list-used : (o : Outcome A) → length (left o) ≤ room_of lent → Ends lent o n count list → padded_bytes l (take (4 * count) list) ≡ padded_bytes l list
  list-used (done a bs) f e = rw (e.1, e.2) (used-bytes l lent bs (omega (arith, room-lent lent)) h)
  list-used (refused m bs) f e = rw (e.1, e.2, padded-zeros l 0 (omega arith), padded-zeros l lent (omega arith))
