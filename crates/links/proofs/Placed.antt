-- Walks whose faults are met in a block that was entered, whatever the image.
use Prim.Native.Nat.{ℕ, ◌≤◌, ◌<◌}
use mathlib.Core.Bool.{Bool, true, false}
use mathlib.Core.List.{List, [], ◌∷◌, ◌++◌}
use mathlib.Core.Path.{◌≡◌, refl}
use borrow.Author.Tests.{eqb-false}
use lib.Dec.{eqb}
use lib.ListN.{length}
use Rattle.format.specs.Limits.{blocks_most}
use Rattle.format.specs.Blocks.{Block, block_of}
use Rattle.std.specs.Prelude.{if◌then◌else◌}
use Rattle.format.specs.declared.Refusal.{Refusal}
use Rattle.format.specs.declared.Refusal.TheVariants.{Fault, NotEntered}
use Rattle.format.specs.Result.{Result, value, answer}
use Rattle.format.specs.Walk.{Kind, kind_number, Length, fixed, stored, fault, Walk, ret, refuse, enter, enter_block, check, located, ◌>>=◌}
use Rattle.links.specs.Placed.{HeldBy}
use Rattle.links.proofs.Numbered.{Answered}
use Rattle.links.proofs.PlacedBlocks.{Kept, OneMore, kept_same, kept_on, one_more}

-- the numbers of all faults but that of too many continuations
abbrev pub Not13 : ℕ → Type 0
Not13 n = n ≡ 13 → ⊥

pub not-13 : (n : ℕ) → eqb n 13 ≡ false → Not13 n
not-13 n e = eqb-false n 13 e

-- the place of a fault is held by the blocks entered, or its number is 13 and these are more than any room. No walk refuses a block by itself
abbrev pub Met : List Block → Refusal → Type 0
Met bs (Fault n at) = (Not13 n → HeldBy bs at) × (n ≡ 13 → blocks_most < length bs)
Met bs (NotEntered n kind a size met) = ⊥

-- a block of m bytes can have the length l
abbrev pub OfLength : Length → ℕ → Type 0
OfLength (fixed n) m = m ≡ n
OfLength (stored p rest) m = p ≤ m

-- begun with the blocks bs, every fault of the walk is met in a block that was entered by then, and P holds of the blocks and the value at its end
unfoldable pub Placed : {A : Type 0} → (List Block → A → Type 0) → List Block → Walk A → Type 0
Placed P bs (ret a) = P bs a
Placed P bs (refuse r) = Met bs r
Placed P bs (enter v a l k) = (b : List ℕ) → OfLength l (length b) → Placed P (bs ++ (block_of (kind_number v) a (length b) ∷ [])) (k b)

-- nothing is said of the end
abbrev pub Whatever : {A : Type 0} → List Block → A → Type 0
Whatever bs a = Unit {0}

-- one walk after another; the blocks that the first was begun with are kept
pub placed-bind : {A B : Type 0} (P : List Block → A → Type 0) (Q : List Block → B → Type 0) (bs : List Block) (w : Walk A) (f : A → Walk B) →
    Placed P bs w → ((cs : List Block) (a : A) → Kept bs cs → P cs a → Placed Q cs (f a)) → Placed Q bs (w >>= f)
unfolding Placed ◌>>=◌
placed-bind P Q bs (ret a) f h c = c bs a (kept_same bs) h
placed-bind P Q bs (refuse r) f h c = h
placed-bind P Q bs (enter v a l k) f h c =
    λ b o.
    let more = one_more bs (kind_number v) a (length b) in
    placed-bind P Q (bs ++ (block_of (kind_number v) a (length b) ∷ [])) (k b) f (h b o) (λ cs x q p. c cs x (kept_on more.kept q) p)

module _ {A : Type 0} (P : List Block → A → Type 0) (bs : List Block) where
  pub placed-ret : (a : A) → P bs a → Placed P bs (ret a)
  unfolding Placed
  placed-ret a h = h

  pub placed-refuse : (n at : ℕ) → eqb n 13 ≡ false → HeldBy bs at → Placed P bs (refuse (fault n at))
  unfolding Placed
  placed-refuse n at m h = ((λ _. h), λ e. absurd (not-13 n m e))

  -- more blocks than any room
  pub placed-full : (at : ℕ) → blocks_most < length bs → Placed P bs (refuse (fault 13 at))
  unfolding Placed
  placed-full at l = ((λ m. absurd (m refl)), λ _. l)

  -- a block, and what follows
  pub placed-enter : (v : Kind) (a : ℕ) (l : Length) (k : List ℕ → Walk A) →
      ((b : List ℕ) (cs : List Block) → OfLength l (length b) → OneMore bs a (length b) cs → Placed P cs (k b)) → Placed P bs (enter v a l k)
  unfolding Placed
  placed-enter v a l k h = λ b o. h b _ o (one_more bs (kind_number v) a (length b))

  -- a block of n bytes, and what follows
  pub placed-block : (v : Kind) (a n : ℕ) (f : List ℕ → Walk A) →
      ((b : List ℕ) (cs : List Block) → length b ≡ n → OneMore bs a n cs → Placed P cs (f b)) → Placed P bs (enter_block v a n >>= f)
  unfolding Placed ◌>>=◌
  placed-block v a n f h = λ b o. h b (bs ++ (block_of (kind_number v) a (length b) ∷ [])) o (rw (← o) (one_more bs (kind_number v) a (length b)))

  -- a test, and what follows
  pub placed-check : (t : Bool) (n at : ℕ) (w : Walk A) → eqb n 13 ≡ false → HeldBy bs at → (t ≡ true → Placed P bs w) →
      Placed P bs (check t (fault n at) >>= λ _. w)
  unfolding Placed ◌>>=◌
  placed-check true n at w m h c = c refl
  placed-check false n at w m h c = ((λ _. h), λ e. absurd (not-13 n m e))

  pub placed-if : (t : Bool) (x y : Walk A) → (t ≡ true → Placed P bs x) → (t ≡ false → Placed P bs y) → Placed P bs (if t then x else y)
  placed-if true x y h k = h refl
  placed-if false x y h k = k refl

  -- a reader of the part at a place, and what follows
  pub placed-located : {B : Type 0} (at : ℕ) (r : Result B) (f : B → Walk A) → Answered Not13 r → HeldBy bs at →
      ((b : B) → r ≡ value b → Placed P bs (f b)) → Placed P bs (located at r >>= f)
  unfolding Placed ◌>>=◌ Answered
  placed-located at (value b) f m h c = c b refl
  placed-located at (answer n) f m h c = ((λ _. h), λ e. absurd (m e))
