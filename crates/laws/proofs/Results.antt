-- Laws of what a reader makes of a part of a block, and of the walk that it is where the part stands.
use Prim.Native.Nat.{ℕ}
use mathlib.Core.Bool.{Bool, true, false}
use mathlib.Core.Path.{◌≡◌, refl, sym, ◌∙◌}
use native.Mathlib.Omega.{arith}
use Rattle.format.specs.Result.{Result, value, answer, check, ◌>>=◌, ◌>>◌}
use Rattle.format.specs.Walk.{ret, fault, located}
use Rattle.format.specs.Walk as walks

-- one reader after another
pub value-bind : {A B : Type 0} (a : A) (f : A → Result B) → value a >>= f ≡ f a
unfolding ◌>>=◌
value-bind a f = refl

pub answer-bind : {A B : Type 0} (n : ℕ) (f : A → Result B) → answer n >>= f ≡ answer n
unfolding ◌>>=◌
answer-bind n f = refl

pub bind-value : {A : Type 0} (r : Result A) → (r >>= λ a. value a) ≡ r
unfolding ◌>>=◌
bind-value (value a) = refl
bind-value (answer n) = refl

pub bind_assoc : {A B C : Type 0} (r : Result A) (f : A → Result B) (g : B → Result C) → (r >>= f) >>= g ≡ r >>= λ a. f a >>= g
unfolding ◌>>=◌
bind_assoc (value a) f g = refl
bind_assoc (answer n) f g = refl

-- two readers one after the other have a value only if both have
pub both_values : {A B : Type 0} (r : Result A) (f : A → Result B) (b : B) → r >>= f ≡ value b → (a : A) × (r ≡ value a) × (f a ≡ value b)
unfolding ◌>>=◌
both_values (value a) f b e = (a, refl, e)
both_values (answer n) f b e = let z : ◌≡◌ {A = ℕ} 0 1 = cc in absurd (omega arith)

pub check-passes : {A : Type 0} (t : Bool) (n : ℕ) (f : Unit {0} → Result A) → t ≡ true → check t n >>= f ≡ f tt
unfolding ◌>>=◌
check-passes t n f e = rw e

pub check-fails : {A : Type 0} (t : Bool) (n : ℕ) (f : Unit {0} → Result A) → t ≡ false → check t n >>= f ≡ answer n
unfolding ◌>>=◌
check-fails t n f e = rw e

-- a test with a reader after it has a value only if the test holds
pub check-value : {A : Type 0} (t : Bool) (n : ℕ) (f : Unit {0} → Result A) (a : A) → check t n >>= f ≡ value a → (t ≡ true) × (f tt ≡ value a)
unfolding ◌>>=◌
check-value true n f a e = (refl, e)
check-value false n f a e = let z : ◌≡◌ {A = ℕ} 0 1 = cc in absurd (omega arith)

-- The same laws for what the code of a reader returned, x: it is the reader's once it is what is left of it.
module _ {A : Type 0} where
  pub passes : {x : Result A} {t : Bool} (n : ℕ) (r : Result A) → t ≡ true → x ≡ r → x ≡ (check t n >> r)
  passes {x} {t} n r e f = f ∙ sym (check-passes t n (λ _. r) e)

  pub fails : {t : Bool} (n : ℕ) (r : Result A) → t ≡ false → answer n ≡ (check t n >> r)
  fails {t} n r e = sym (check-fails t n (λ _. r) e)

  -- a callee, by what it returned: a value, or an answer
  pub gives : {B : Type 0} {x : Result A} {r : Result B} {b : B} (f : B → Result A) → value b ≡ r → x ≡ f b → x ≡ (r >>= f)
  unfolding ◌>>=◌
  gives f e g = rw (← e) g

  pub answers : {B : Type 0} {r : Result B} {n : ℕ} (f : B → Result A) → answer n ≡ r → answer n ≡ (r >>= f)
  unfolding ◌>>=◌
  answers f e = rw (← e)

-- Where a part stands: its readers one after the other are walks one after the other, and a test is a test there.
pub located-bind : {A B : Type 0} (at : ℕ) (r : Result A) (f : A → Result B) → located at (r >>= f) ≡ walks.◌>>=◌ (located at r) (λ a. located at (f a))
unfolding ◌>>=◌ walks.◌>>=◌
located-bind at (value a) f = refl
located-bind at (answer n) f = refl

pub located-check : (at : ℕ) (t : Bool) (n : ℕ) → located at (check t n) ≡ walks.check t (fault n at)
located-check at true n = refl
located-check at false n = refl

-- a part whose walk is done has that value
pub located-done : {A : Type 0} (r : Result A) (a : A) (at : ℕ) → located at r ≡ ret a → r ≡ value a
located-done (value b) a at e = let same : b ≡ a = cc in rw same
located-done (answer n) a at e = let z : ◌≡◌ {A = ℕ} 0 1 = cc in absurd (omega arith)
