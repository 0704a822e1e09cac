-- A walk that is done with some room is refused with 13 only, whatever the room.
use Prim.Native.Nat.{ℕ, ◌-◌, ◌≤◌}
use mathlib.Core.Bool.{Bool, true, false}
use mathlib.Core.List.{List, []}
use mathlib.Core.Logic.{◌⊎◌, inl, inr, ⊎_elim}
use mathlib.Core.Path.{◌≡◌, refl, ap, sym, ◌∙◌}
use native.Mathlib.Omega.{arith}
use borrow.Author.Tests.{leb-true, leb-false}
use lib.Dec.{leb}
use lib.ListN.{length}
use Rattle.format.specs.Blocks.{Block}
use Rattle.format.specs.declared.Refusal.{Refusal}
use Rattle.format.specs.Walk.{answer_of, Walk, done, refused, run}
use Rattle.links.proofs.Numbered.{Only}
use Rattle.laws.proofs.Plan.{plan, blocks, no-room-answer}
use Rattle.laws.proofs.Disjoint.{apart_none}
use Rattle.laws.proofs.MoreRoom.{done_more}
use Rattle.laws.proofs.Restart.{run-done, restart, restart-short}

-- a walk that is done with some room is done with any, or refused with 13
pub done-or-full : (im : List ℕ) (eof : ℕ) {A : Type 0} (w : Walk A) (enough : ℕ) (x : A) (ms : List Block) → run im eof enough w [] ≡ done x ms → (room : ℕ) →
    (run im eof room w [] ≡ done x ms) ⊎ ((r : Refusal) × (cs : List Block) × (run im eof room w [] ≡ refused r cs) × (answer_of r ≡ 13))
done-or-full im eof w enough x ms e room = go (leb (length (blocks (plan im eof w))) room) refl
  where
    go : (t : Bool) → leb (length (blocks (plan im eof w))) room ≡ t →
        (run im eof room w [] ≡ done x ms) ⊎ ((r : Refusal) × (cs : List Block) × (run im eof room w [] ≡ refused r cs) × (answer_of r ≡ 13))
    go true t =
        let all : ms ≡ blocks (plan im eof w) = (run-done im eof w enough [] ms x e).all in
        let fits = leb-true (length (blocks (plan im eof w))) room t in
        inl (restart im eof w enough [] ms x e room [] (apart_none (blocks (plan im eof w))) (omega arith) ∙ ap (done x) (sym all))
    go false t =
        let short = leb-false (length (blocks (plan im eof w))) room t in
        let z = restart-short im eof w enough [] ms x e room [] (apart_none (blocks (plan im eof w))) (omega arith) (omega arith) in
        inr (_, _, z, no-room-answer (room - 0) (plan im eof w) (omega arith))

module _ (N : ℕ → Type 0) (im : List ℕ) (eof : ℕ) {A : Type 0} (w : Walk A) (enough : ℕ) (x : A) (ms : List Block) (e : run im eof enough w [] ≡ done x ms)
    (room : ℕ) (full : N 13 ⊎ (enough ≤ room)) where
  -- with so much room it is done too
  pub done-unless : (run im eof room w [] ≡ done x ms) ⊎ ((r : Refusal) × (cs : List Block) × (run im eof room w [] ≡ refused r cs) × N (answer_of r))
  done-unless =
      ⊎_elim (λ n. ⊎_elim (λ h. inl h) (λ h. inr (h.0, h.1, h.2, rw h.3 n)) (done-or-full im eof w enough x ms e room))
      (λ l. inl (done_more im eof enough room l w [] x ms e)) full

  pub only-full : Only N (run im eof room w [])
  only-full = ⊎_elim (λ h. rw h tt) (λ h. rw h.2 h.3) done-unless
