-- Walks that enter blocks with an address and a length of 64 bits only, as long as they are shown bytes.
use Prim.Native.Nat.{ℕ, ◌+◌}
use mathlib.Core.Bool.{Bool, true, false}
use mathlib.Core.List.{List}
use mathlib.Core.Path.{◌≡◌, refl}
use Rattle.std.specs.Prelude.{if◌then◌else◌}
use Rattle.format.specs.declared.Refusal.{Refusal}
use Rattle.format.specs.declared.Refusal.TheVariants.{Fault, NotEntered}
use Rattle.format.specs.Result.{Result, value, answer}
use Rattle.format.specs.Walk.{Kind, Length, fixed, stored, fault, Walk, ret, refuse, enter, enter_block, check, located, ◌>>=◌}
use Rattle.links.proofs.Gives.{Gives}
use Rattle.demand.specs.Bytes.{IsBytes}
use Rattle.refused_words.specs.Words.{IsWord}

-- no walk refuses a block by itself
abbrev pub NoBlock : Refusal → Type 0
NoBlock (Fault n at) = Unit {0}
NoBlock (NotEntered n kind a size met) = ⊥

-- a length of 64 bits, wherever it is read from bytes
abbrev pub LengthFits : Length → Type 0
LengthFits (fixed n) = IsWord n
LengthFits (stored p rest) = IsWord p × ((b : List ℕ) → IsBytes b → IsWord (p + rest b))

-- every block has an address and a length of 64 bits, and P holds of the value at the end
unfoldable pub Fits : {A : Type 0} → (A → Type 0) → Walk A → Type 0
Fits P (ret a) = P a
Fits P (refuse r) = NoBlock r
Fits P (enter v a l k) = IsWord a × LengthFits l × ((b : List ℕ) → IsBytes b → Fits P (k b))

-- one walk after another
pub fits-bind : {A B : Type 0} (P : A → Type 0) (Q : B → Type 0) (w : Walk A) (f : A → Walk B) → Fits P w → ((a : A) → P a → Fits Q (f a)) →
    Fits Q (w >>= f)
unfolding Fits ◌>>=◌
fits-bind P Q (ret a) f h c = c a h
fits-bind P Q (refuse r) f h c = h
fits-bind P Q (enter v a l k) f h c = (h.0, h.1, λ b i. fits-bind P Q (k b) f (h.2 b i) c)

module _ {A : Type 0} (P : A → Type 0) where
  pub fits-ret : (a : A) → P a → Fits P (ret a)
  unfolding Fits
  fits-ret a h = h

  pub fits-refuse : (n at : ℕ) → Fits P (refuse (fault n at))
  unfolding Fits
  fits-refuse n at = tt

  -- a block, and what follows
  pub fits-enter : (v : Kind) (a : ℕ) (l : Length) (k : List ℕ → Walk A) → IsWord a → LengthFits l → ((b : List ℕ) → IsBytes b → Fits P (k b)) →
      Fits P (enter v a l k)
  unfolding Fits
  fits-enter v a l k g h c = (g, h, c)

  -- a block of n bytes, and what follows
  pub fits-block : (v : Kind) (a n : ℕ) (f : List ℕ → Walk A) → IsWord a → IsWord n → ((b : List ℕ) → IsBytes b → Fits P (f b)) →
      Fits P (enter_block v a n >>= f)
  unfolding Fits ◌>>=◌
  fits-block v a n f g h c = (g, h, c)

  -- a test, and what follows
  pub fits-check : (t : Bool) (n at : ℕ) (w : Walk A) → Fits P w → Fits P (check t (fault n at) >>= λ _. w)
  unfolding Fits ◌>>=◌
  fits-check true n at w h = h
  fits-check false n at w h = tt

  pub fits-if : (t : Bool) (x y : Walk A) → (t ≡ true → Fits P x) → Fits P y → Fits P (if t then x else y)
  fits-if true x y h k = h refl
  fits-if false x y h k = k

  -- a reader of the part at a place, and what follows
  pub fits-located : {B : Type 0} (Q : B → Type 0) (at : ℕ) (r : Result B) (f : B → Walk A) → Gives Q r → ((b : B) → Q b → Fits P (f b)) →
      Fits P (located at r >>= f)
  unfolding Fits Gives ◌>>=◌
  fits-located Q at (value b) f h c = c b h
  fits-located Q at (answer n) f h c = tt
