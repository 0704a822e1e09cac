-- The faults of messages are met in the bytes that they fill, and each message begins there.
use Prim.Native.Nat.{ℕ, zero, suc, ◌+◌, ◌-◌}
use mathlib.Core.Bool.{Bool, true, false}
use mathlib.Core.List.{List, [], ◌∷◌, ◌++◌}
use mathlib.Core.Path.{◌≡◌, refl}
use native.Mathlib.Omega.{arith}
use borrow.Author.Tests.{eqb-true, eqb-false}
use lib.Dec.{eqb}
use lib.ListN.{length, drop, length-drop}
use Rattle.std.specs.Prelude.{if◌then◌else◌}
use Rattle.format.specs.Bytes.{with_first, u16}
use Rattle.format.specs.Blocks.{Block}
use Rattle.format.specs.Result.{Result, value}
use Rattle.format.specs.Walk as walks
use Rattle.format.specs.Message.{Message, read_message, of_type, the_message}
use Rattle.format.specs.Header.{messages}
use Rattle.format.specs.Dataset.{head_at}
use Rattle.links.specs.Placed.{HeldBy}
use Rattle.links.proofs.Gives.{Gives, gives-value, gives-check}
use Rattle.links.proofs.Numbered.{Answered}
use Rattle.links.proofs.NumberedHeader.{message-answered}
use Rattle.links.proofs.PlacedBlocks.{HeldUpTo, Kept}
use Rattle.links.proofs.Placed.{Not13, not-13, Placed, placed-bind, placed-ret, placed-check, placed-if, placed-located}

-- the first byte of each message is held
abbrev pub HeadsHeld : List Block → List Message → Type 0
HeadsHeld bs [] = Unit {0}
HeadsHeld bs (m ∷ ms) = HeldBy bs (head_at m) × HeadsHeld bs ms

pub heads-kept : {bs cs : List Block} → Kept bs cs → (ms : List Message) → HeadsHeld bs ms → HeadsHeld cs ms
heads-kept k [] h = tt
heads-kept k (m ∷ ms) h = (k.held (head_at m) h.0, heads-kept k ms h.1)

pub heads-append : (bs : List Block) (ms ns : List Message) → HeadsHeld bs ms → HeadsHeld bs ns → HeadsHeld bs (ms ++ ns)
heads-append bs [] ns h k = k
heads-append bs (m ∷ ms) ns h k = (h.0, heads-append bs ms ns h.1 k)

heads-type : (bs : List Block) (t : ℕ) (ms : List Message) → HeadsHeld bs ms → HeadsHeld bs (of_type t ms)
unfolding of_type
heads-type bs t [] h = tt
heads-type bs t (m ∷ ms) h = go (eqb m.type t) (heads-type bs t ms h.1)
  where
    go : (u : Bool) → HeadsHeld bs (of_type t ms) → HeadsHeld bs (if u then m ∷ of_type t ms else of_type t ms)
    go true rest = (h.0, rest)
    go false rest = rest

-- the message of a type, where there is one
pub heads-of : (bs : List Block) (ms : List Message) → HeadsHeld bs ms → (t : ℕ) → eqb (length (of_type t ms)) 1 ≡ true → HeldBy bs (head_at (the_message t ms))
unfolding the_message
heads-of bs ms h t e = go (of_type t ms) (eqb-true (length (of_type t ms)) 1 e) (heads-type bs t ms h)
  where
    go : (ns : List Message) → length ns ≡ 1 → HeadsHeld bs ns →
        HeldBy bs (head_at (with_first ns (record { type = t; flags = 0; body = []; place = 0 }) (λ m. m)))
    go [] l k = absurd (omega (arith, l))
    go (n ∷ ns) l k = k.0

-- a message begins where its bytes do
message-gives : (place : ℕ) (m : List ℕ) → Gives (λ here. head_at here ≡ place) (read_message place m)
unfolding read_message
message-gives place m = let at : place + 8 - 8 ≡ place = omega arith in search (gives-check, gives-value) depth 20

message-head : (place : ℕ) (m : List ℕ) (here : Message) → read_message place m ≡ value here → head_at here ≡ place
unfolding Gives
message-head place m here e = rw e at (message-gives place m)

module _ {S : Type 0} (visit : Message → S → Result S) (visited : (m : Message) (s : S) → Answered Not13 (visit m s)) where
  -- the messages are those of bytes that are held
  pub messages-placed : (bs : List Block) (fuel place : ℕ) (m : List ℕ) (s : S) → HeldUpTo bs place (place + length m) →
      Placed (λ cs g. HeadsHeld cs g.all) bs (messages visit fuel place m s)
  unfolding messages walks.◌>>=◌
  messages-placed bs zero place [] s h = placed-ret _ bs _ tt
  messages-placed bs zero place (x ∷ m) s h =
      placed-check _ bs (eqb (length (x ∷ m)) 0) 10 place _ refl (h place (omega arith) (omega arith)) (λ _. placed-ret _ bs _ tt)
  messages-placed bs (suc fuel) place m s h =
      placed-if _ bs (eqb (length m) 0) _ _ (λ _. placed-ret _ bs _ tt) λ t.
      let held = h place (omega arith) (omega (arith, eqb-false (length m) 0 t)) in
      placed-located _ bs place (read_message place m) _ (message-answered Not13 (not-13 3 refl) (not-13 10 refl) place m) held λ here e.
      placed-located _ bs place (visit here s) _ (visited here s) held λ found _.
      placed-bind _ _ bs _ _
      (messages-placed bs fuel (place + 8 + u16 m 2) (drop (8 + u16 m 2) m) found
      (λ x l k. h x (omega arith) (omega (arith, k, length-drop (8 + u16 m 2) m))))
      λ cs g k p. placed-ret _ cs _ (k.held _ (rw (message-head place m here e) held), p)
