-- Walks that enter blocks of certain kinds only, whatever the image.
use Prim.Native.Nat.{ℕ, ◌+◌, ◌≤◌}
use mathlib.Core.Bool.{Bool, true, false}
use mathlib.Core.List.{List, []}
use native.Mathlib.Omega.{arith}
use lib.Dec.{leb}
use Rattle.std.specs.Prelude.{if◌then◌else◌}
use Rattle.format.specs.Bytes.{part}
use Rattle.format.specs.Blocks.{block_of}
use Rattle.format.specs.declared.Refusal.{Refusal}
use Rattle.format.specs.Result.{Result, value, answer}
use Rattle.format.specs.Walk.{Kind, kind_number, Length, shown, length_in, known_length, not_entered, Walk, ret, refuse, enter, check, located, ◌>>=◌}
use Rattle.format.specs.Walk.{superblock_block, header_block, continuation_block, heap_block, segment_block, tree_block, symbol_block, data_block}
use Rattle.laws.proofs.Plan.{Plan, fault, step, plan, blocks}
use Rattle.links.specs.Owners.{AllKinds}

-- every block that the walk enters, whatever it is shown, is of a kind of which K holds
unfoldable pub Enters : (ℕ → Type 0) → {A : Type 0} → Walk A → Type 0
Enters K (ret a) = Unit {0}
Enters K (refuse r) = Unit {0}
Enters K (enter v a l k) = K (kind_number v) × ((b : List ℕ) → Enters K (k b))

module _ (K : ℕ → Type 0) where
  -- one walk after another
  pub enters-bind : {A B : Type 0} (w : Walk A) (f : A → Walk B) → Enters K w → ((a : A) → Enters K (f a)) → Enters K (w >>= f)
  unfolding Enters ◌>>=◌
  enters-bind (ret a) f h c = c a
  enters-bind (refuse r) f h c = tt
  enters-bind (enter v a l k) f h c = (h.0, λ b. enters-bind (k b) f (h.1 b) c)

  pub enters-ret : {A : Type 0} (a : A) → Enters K (ret a)
  unfolding Enters
  enters-ret a = tt

  pub enters-refuse : (A : Type 0) (r : Refusal) → Enters K {A = A} (refuse r)
  unfolding Enters
  enters-refuse A r = tt

  pub enters-enter : {A : Type 0} (v : Kind) (a : ℕ) (l : Length) (k : List ℕ → Walk A) → K (kind_number v) → ((b : List ℕ) → Enters K (k b)) →
      Enters K (enter v a l k)
  unfolding Enters
  enters-enter v a l k h c = (h, c)

  -- a test, and what follows
  pub enters-check : {A : Type 0} (t : Bool) (r : Refusal) (w : Walk A) → Enters K w → Enters K (check t r >>= λ _. w)
  unfolding Enters ◌>>=◌
  enters-check true r w h = h
  enters-check false r w h = tt

  pub enters-if : {A : Type 0} (t : Bool) (x y : Walk A) → Enters K x → Enters K y → Enters K (if t then x else y)
  enters-if true x y h k = h
  enters-if false x y h k = k

  -- a reader of a part enters nothing
  pub enters-located : {A : Type 0} (at : ℕ) (r : Result A) → Enters K (located at r)
  unfolding Enters
  enters-located at (value a) = tt
  enters-located at (answer n) = tt

  -- the blocks of such a walk's plan
  pub plan-kinds : {A : Type 0} (im : List ℕ) (eof : ℕ) (w : Walk A) → Enters K w → AllKinds K (blocks (plan im eof w))
  unfolding Enters plan
  plan-kinds im eof (ret a) h = tt
  plan-kinds im eof (refuse r) h = tt
  plan-kinds {A} im eof (enter v a l k) h =
      let n = length_in im v a l in
      let b = shown v (part im a n) in
      go n (leb (a + n) eof) (plan im eof (k b)) (plan-kinds im eof (k b) (h.1 b))
    where
      go : (n : ℕ) (t : Bool) (p : Plan A) → AllKinds K (blocks p) →
          AllKinds K (blocks (if t then step (block_of (kind_number v) a n) p else fault (not_entered 5 (kind_number v) a (known_length im eof v a l) [])))
      go n true p c = (h.0, c)
      go n false p c = tt

-- "kind (1 to 8 .."
pub known-kind : (u : Kind) → kind_number u ≤ 8
known-kind superblock_block = omega arith
known-kind header_block = omega arith
known-kind continuation_block = omega arith
known-kind heap_block = omega arith
known-kind segment_block = omega arith
known-kind tree_block = omega arith
known-kind symbol_block = omega arith
known-kind data_block = omega arith

-- whatever a walk enters has one of these kinds
pub enters-known : {A : Type 0} (w : Walk A) → Enters (λ v. v ≤ 8) w
unfolding Enters
enters-known (ret a) = tt
enters-known (refuse r) = tt
enters-known (enter v a l k) = (known-kind v, λ b. enters-known (k b))

-- the laws of such walks, for `search`
pub ruleset entering = (enters-bind, enters-ret, enters-refuse, enters-enter, enters-check, enters-if, enters-located, tt)
