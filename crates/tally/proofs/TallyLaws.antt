-- Laws of the first message of a type, as messages are added at the end.
use Prim.Native.Nat.{ℕ, ◌+◌, ◌≤◌, min}
use mathlib.Core.Bool.{Bool, true, false}
use mathlib.Core.List.{List, [], ◌∷◌, ◌++◌, append-nil}
use mathlib.Core.Path.{◌≡◌, refl, ap, ◌∙◌}
use native.Mathlib.Omega.{arith}
use borrow.Author.Tests.{eq-eqb, ne_eqb}
use lib.Dec.{eqb}
use lib.ListN.{length, length-append}
use Rattle.std.specs.Prelude.{if◌then◌else◌}
use Rattle.format.specs.Message.{Message, of_type, the_message}
use Rattle.tally.specs.declared.Occurrence.{Occurrence}
use Rattle.tally.specs.declared.Occurrence.TheVariants.{Absent, Once, Repeated}
use Rattle.tally.specs.Tally.{message_at, Placed, IsFirst}

pub of_type-append : (t : ℕ) (ms ns : List Message) → of_type t (ms ++ ns) ≡ of_type t ms ++ of_type t ns
unfolding of_type
of_type-append t [] ns = refl
of_type-append t (m ∷ ms) ns = go (eqb m.type t) (of_type-append t ms ns)
  where
    go : (b : Bool) → of_type t (ms ++ ns) ≡ of_type t ms ++ of_type t ns →
        (if b then m ∷ of_type t (ms ++ ns) else of_type t (ms ++ ns)) ≡ (if b then m ∷ of_type t ms else of_type t ms) ++ of_type t ns
    go true e = ap (λ (l : List Message). m ∷ l) e
    go false e = e

pub of_type-same : (t : ℕ) (m : Message) → m.type ≡ t → of_type t (m ∷ []) ≡ m ∷ []
unfolding of_type
of_type-same t m e = rw (eq-eqb m.type t e)

pub of_type-other : (t : ℕ) (m : Message) → (m.type ≡ t → ⊥) → of_type t (m ∷ []) ≡ []
unfolding of_type
of_type-other t m e = rw (ne_eqb m.type t e)

-- a message of another type changes nothing
of_type-kept : (t : ℕ) (ms : List Message) (m : Message) → (m.type ≡ t → ⊥) → of_type t (ms ++ (m ∷ [])) ≡ of_type t ms
of_type-kept t ms m e = of_type-append t ms (m ∷ []) ∙ rw (of_type-other t m e) (append-nil (of_type t ms))

pub first-kept : (im : List ℕ) (ms : List Message) (m : Message) (t : ℕ) (o : Occurrence) → (m.type ≡ t → ⊥) → IsFirst im ms t o →
    IsFirst im (ms ++ (m ∷ [])) t o
unfolding the_message
first-kept im ms m t Absent e i = rw (of_type-kept t ms m e) i
first-kept im ms m t (Once place) e i = rw (of_type-kept t ms m e) i
first-kept im ms m t (Repeated place) e i = rw (of_type-kept t ms m e) i

-- a message of the type is the first, or comes behind it
module _ (im : List ℕ) (ms : List Message) (t place : ℕ) where
  abbrev m : Message
  m = message_at im t place

  more : of_type t (ms ++ (m ∷ [])) ≡ of_type t ms ++ (m ∷ [])
  more = of_type-append t ms (m ∷ []) ∙ rw (of_type-same t m refl)

  pub first-new : Placed im t place → IsFirst im ms t Absent → IsFirst im (ms ++ (m ∷ [])) t (Once place)
  unfolding the_message
  first-new p i = go (of_type t ms) refl
    where
      go : (l : List Message) → of_type t ms ≡ l → IsFirst im (ms ++ (m ∷ [])) t (Once place)
      go [] e = (rw (more, e), rw (more, e), p)
      go (x ∷ xs) e = absurd (omega (arith, i, ap length e))

  -- it comes behind the first one
  module _ (first : ℕ) (some : 1 ≤ length (of_type t ms)) (is : the_message t ms ≡ message_at im t first) (p : Placed im t first) where
    pub first-again : IsFirst im (ms ++ (m ∷ [])) t (Repeated first)
    unfolding the_message
    first-again = (rw more (simp length-append (omega (arith, some))), go (of_type t ms) refl, p)
      where
        go : (l : List Message) → of_type t ms ≡ l → the_message t (ms ++ (m ∷ [])) ≡ message_at im t first
        go [] e = absurd (omega (arith, some, ap length e))
        go (x ∷ xs) e = rw (more, e) ((rw e at is))

pub total-more : (ms : List Message) (m : Message) (total next : ℕ) → total ≡ min (length ms) 65536 → next ≡ min (total + 1) 65536 →
    next ≡ min (length (ms ++ (m ∷ []))) 65536
total-more ms m total next e f = simp length-append (omega arith)
