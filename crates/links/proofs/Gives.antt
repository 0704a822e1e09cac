-- What holds of whatever a reader makes of its part.
use Prim.Native.Nat.{ℕ}
use mathlib.Core.Bool.{Bool, true, false}
use Rattle.std.specs.Prelude.{if◌then◌else◌}
use Rattle.format.specs.Result.{Result, value, answer, check, ◌>>=◌}

-- P holds of the value, where there is one
unfoldable pub Gives : {A : Type 0} → (A → Type 0) → Result A → Type 0
Gives P (value a) = P a
Gives P (answer n) = Unit {0}

-- nothing is said
abbrev pub Whatever : {A : Type 0} → A → Type 0
Whatever a = Unit {0}

module _ {A : Type 0} (P : A → Type 0) where
  pub gives-value : (a : A) → P a → Gives P (value a)
  unfolding Gives
  gives-value a h = h

  pub gives-answer : (n : ℕ) → Gives P (answer n)
  unfolding Gives
  gives-answer n = tt

  pub gives-check : (t : Bool) (n : ℕ) (r : Result A) → Gives P r → Gives P (check t n >>= λ _. r)
  unfolding Gives ◌>>=◌
  gives-check true n r h = h
  gives-check false n r h = tt

  pub gives-if : (t : Bool) (x y : Result A) → Gives P x → Gives P y → Gives P (if t then x else y)
  gives-if true x y h k = h
  gives-if false x y h k = k

  pub gives-bind : {B : Type 0} (Q : B → Type 0) (r : Result B) (f : B → Result A) → Gives Q r → ((b : B) → Q b → Gives P (f b)) →
      Gives P (r >>= f)
  unfolding Gives ◌>>=◌
  gives-bind Q (value b) f h c = c b h
  gives-bind Q (answer n) f h c = tt

pub gives-whatever : {A : Type 0} (r : Result A) → Gives Whatever r
unfolding Gives
gives-whatever (value a) = tt
gives-whatever (answer n) = tt
