-- The reply in C of an undo.
use Prim.Native.Nat.{ℕ, zero, suc, ◌/◌, ◌≤◌, ◌<◌}
use mathlib.Core.Path.{◌≡◌, refl, ap, ◌∙◌}
use mathlib.Core.List.{List, [], ◌∷◌}
use native.Mathlib.Omega.{arith}
use borrow.Author.Tests.{le-leb, lt-leb}
use lib.ListN.{replicate}
use Rattle.format.specs.Answers.{UndoReply, undo}
use Rattle.format.specs.Front.{padded_bytes, CUndo, c_undo_end, c_undo}
use Rattle.undo.specs.Reply.{reply_of, words_of}
use Rattle.std.specs.Prelude.{Result, Ok, Err}
use Rattle.words.proofs.Words.{padded-zeros}

-- A reply of r bytes.
module _ (im log : List ℕ) (r e n : ℕ) where
  pub short-reply : (reply : List ℕ) → r / 8 < 1 → reply ≡ replicate r 0 →
      ◌≡◌ {A = CUndo} (record { number = 13; reply = reply; image = im }) (c_undo im log r e n)
  unfolding c_undo
  short-reply reply h p = rw (p, lt-leb 1 (r / 8) h)

  -- What undo returned, and the image that it left.
  module _ (im' : List ℕ) (h : 1 ≤ r / 8) where
    undone : (a : Result ℕ ℕ) → reply_of im' a ≡ undo im (words_of log) e n → c_undo_end r (reply_of im' a) ≡ c_undo im log r e n
    unfolding c_undo
    undone a d = ap (λ (u : UndoReply). c_undo_end r u) d ∙ rw (le-leb 1 (r / 8) h)

    pub done-reply : (writes : ℕ) → reply_of im' (Ok writes) ≡ undo im (words_of log) e n → (reply : List ℕ) → reply ≡ padded_bytes r (writes ∷ []) →
        ◌≡◌ {A = CUndo} (record { number = 0; reply = reply; image = im' }) (c_undo im log r e n)
    done-reply writes d reply p = rw p (undone (Ok writes) d)

    pub refused-reply : (number : ℕ) → reply_of im' (Err number) ≡ undo im (words_of log) e n → (reply : List ℕ) → (number ≡ 0 → ⊥) →
        reply ≡ replicate r 0 → ◌≡◌ {A = CUndo} (record { number = number; reply = reply; image = im' }) (c_undo im log r e n)
    refused-reply number d reply z p = rw p (go number z) ∙ undone (Err number) d
      where
        go : (k : ℕ) → (k ≡ 0 → ⊥) →
            ◌≡◌ {A = CUndo} (record { number = k; reply = replicate r 0; image = im' }) (c_undo_end r (record { number = k; writes = 0; image = im' }))
        go zero y = absurd (y refl)
        go (suc k) y = rw (padded-zeros r 0 (omega arith))
