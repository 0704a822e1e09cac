-- Laws of a run after another: where both end, the first was done or has refused.
use Prim.Native.Nat.{ℕ}
use mathlib.Core.List.{List}
use mathlib.Core.Logic.{◌⊎◌, inl, inr}
use mathlib.Core.Path.{◌≡◌, refl}
use native.Mathlib.Omega.{arith}
use Rattle.format.specs.Blocks.{Block}
use Rattle.format.specs.declared.Refusal.{Refusal}
use Rattle.format.specs.Walk.{Outcome, done, refused, and_then}

pub then-refused : {A B : Type 0} (o : Outcome A) (f : A → List Block → Outcome B) (r : Refusal) (ms : List Block) → and_then o f ≡ refused r ms →
    (o ≡ refused r ms) ⊎ ((a : A) × (cs : List Block) × (o ≡ done a cs) × (f a cs ≡ refused r ms))
then-refused (done a cs) f r ms e = inr (a, cs, refl, e)
then-refused (refused q cs) f r ms e = inl (cc)

-- a value and a refusal are never one outcome
pub done_refused : {A : Type 0} (a : A) (bs : List Block) (r : Refusal) (ms : List Block) → done a bs ≡ refused r ms → ⊥
done_refused a bs r ms e = let z : ◌≡◌ {A = ℕ} 0 1 = cc in omega arith
