-- A call with a working list: room for few blocks is enough where the answer isn't for want of room. One law for every call in C.
use Prim.Native.Nat.{ℕ, ◌*◌, ◌/◌, ◌≤◌}
use mathlib.Core.Path.{◌≡◌, ap, sym, ◌∙◌}
use native.Mathlib.Omega.{arith}
use lib.ListN.{length}
use Rattle.format.specs.Blocks.{room_of}
use Rattle.format.specs.Walk.{Outcome}
use Rattle.walk.specs.Lent.{left}
use Rattle.laws.proofs.MoreRoom.{HadRoom}
use Rattle.front.proofs.Lent.{room-lent, less-words}

-- A call whose list is a slice of l bytes: its run with so many words lent, what is returned and written at the end of a run, and
-- the number in that.
pub record Call (l : ℕ) (A C : Type 0) : Type 0 where
  pub run : ℕ → Outcome A
  pub end : ℕ → Outcome A → C
  pub number : C → ℕ
  -- the words lent matter by their room alone, hold the blocks, and with more the run is the same unless it had no room
  pub room : (lent : ℕ) → run (4 * room_of lent) ≡ run lent
  pub fits : (lent : ℕ) → length (left (run lent)) ≤ room_of lent
  pub more : (lent lent' : ℕ) → room_of lent ≤ room_of lent' → HadRoom (run lent) → run lent' ≡ run lent
  -- a run writes the same with other words lent, if its blocks fit both
  pub same : (lent lent' : ℕ) (o : Outcome A) → lent ≤ l / 8 → lent' ≤ l / 8 → 4 * length (left o) ≤ lent → 4 * length (left o) ≤ lent' →
      end lent o ≡ end lent' o
  -- the number tells whether there was room
  pub told : (lent : ℕ) (o : Outcome A) → (number (end lent o) ≡ 13 → ⊥) → HadRoom o

module _ {l : ℕ} {A C : Type 0} (call : Call l A C) where
  -- what is returned and written with so many words lent
  abbrev pub reply_with : ℕ → C
  reply_with lent = call.end lent (call.run lent)

  run-same : (lent more : ℕ) → lent ≤ more → more ≤ l / 8 → call.run lent ≡ call.run more → reply_with lent ≡ reply_with more
  run-same lent more h k e =
      let fits : 4 * length (left (call.run lent)) ≤ lent = omega (arith, call.fits lent, room-lent lent) in
      call.same lent more (call.run lent) (omega arith) k fits (omega arith) ∙ ap (λ (o : Outcome A). call.end more o) e

  -- room for m blocks is as good as room for more, if the answer isn't for want of room
  pub as-good : (m all : ℕ) → m ≤ all → 4 * all ≤ l / 8 → (call.number (reply_with (4 * m)) ≡ 13 → ⊥) → reply_with (4 * m) ≡ reply_with (4 * all)
  as-good m all h k roomy =
      let had = call.told (4 * m) (call.run (4 * m)) roomy in
      run-same (4 * m) (4 * all) (omega arith) k (sym (call.more (4 * m) (4 * all) (less-words m all h) had))

  -- the room that all the words are is as good as the words
  pub all_room : (all : ℕ) → all ≡ room_of (l / 8) → reply_with (4 * all) ≡ reply_with (l / 8)
  all_room all e = run-same (4 * all) (l / 8) (omega (arith, room-lent (l / 8))) (omega arith) (rw e (call.room (l / 8)))

-- slices that came back with the same lengths
pub of-slices : {C : Type 0} (reply : ℕ → ℕ → C) (x : C) (l r l' r' : ℕ) → l' ≡ l → r' ≡ r → x ≡ reply l' r' → x ≡ reply l r
of-slices reply x l r l' r' e f q = rw (← e, ← f) q
