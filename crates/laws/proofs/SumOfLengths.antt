-- Blocks that share no byte and lie inside the end of file have lengths that sum to at most the end of file: each byte below it lies in one
-- block at most.
use Prim.Native.Nat.{ℕ, zero, suc, ◌+◌, ◌≤◌, ◌<◌}
use mathlib.Core.Bool.{Bool, true, false}
use mathlib.Core.List.{List, [], ◌∷◌, ◌++◌}
use mathlib.Core.Logic.{◌⊎◌, inl, inr}
use mathlib.Core.Path.{◌≡◌, refl}
use native.Mathlib.Omega.{arith}
use borrow.Author.Tests.{leb-true, leb-false, ltb-true, ltb-false}
use lib.Dec.{leb, ltb}
use Rattle.std.specs.Prelude.{if◌then◌else◌}
use Rattle.format.specs.Blocks.{Block}
use Rattle.walk.specs.Lent.{length_sum}
use Rattle.laws.specs.Blocks.{Fresh, Inside}
use Rattle.laws.proofs.Disjoint.{Apart, fresh-apart, fresh-after, fresh-append, apart_none, apart-order}
use Rattle.laws.proofs.Growth.{inside-append, Grown}

pub lengths-append : (bs cs : List Block) → length_sum (bs ++ cs) ≡ length_sum bs + length_sum cs
unfolding length_sum
lengths-append [] cs = omega arith
lengths-append (b ∷ bs) cs = omega (arith, lengths-append bs cs)

-- 1 for a byte of the block, 0 for another
holds : Block → ℕ → ℕ
holds b i = if leb b.at i then if ltb i (b.at + b.size) then 1 else 0 else 0

data Place (b : Block) (i : ℕ) : Type 0 where
  before : i < b.at → holds b i ≡ 0 → Place b i
  within : b.at ≤ i → i < b.at + b.size → holds b i ≡ 1 → Place b i
  behind : b.at + b.size ≤ i → holds b i ≡ 0 → Place b i

place : (b : Block) (i : ℕ) → Place b i
unfolding holds
place b i = go (leb b.at i) (ltb i (b.at + b.size)) refl refl
  where
    go : (t u : Bool) → leb b.at i ≡ t → ltb i (b.at + b.size) ≡ u → Place b i
    go true true e f = within (leb-true b.at i e) (ltb-true i (b.at + b.size) f) (rw (e, f))
    go true false e f = behind (ltb-false i (b.at + b.size) f) (rw (e, f))
    go false u e f = before (leb-false b.at i e) (rw e)

-- how many blocks hold the byte
holders : List Block → ℕ → ℕ
holders [] i = 0
holders (b ∷ bs) i = holds b i + holders bs i

-- a block's bytes below e, and those of all blocks
bytes_below : ℕ → Block → ℕ
bytes_below zero b = 0
bytes_below (suc e) b = holds b e + bytes_below e b

all_below : ℕ → List Block → ℕ
all_below zero bs = 0
all_below (suc e) bs = holders bs e + all_below e bs

below_none : (e : ℕ) → all_below e [] ≡ 0
unfolding all_below holders
below_none zero = refl
below_none (suc e) = omega (arith, below_none e)

below_more : (e : ℕ) (b : Block) (bs : List Block) → all_below e (b ∷ bs) ≡ bytes_below e b + all_below e bs
unfolding all_below bytes_below holders
below_more zero b bs = refl
below_more (suc e) b bs = omega (arith, below_more e b bs)

-- a block that ends at e or before has all its bytes below e
module _ (b : Block) where
  data Count (e : ℕ) : Type 0 where
    none_yet : e ≤ b.at → bytes_below e b ≡ 0 → Count e
    some : b.at ≤ e → e ≤ b.at + b.size → bytes_below e b + b.at ≡ e → Count e
    all : b.at + b.size ≤ e → bytes_below e b ≡ b.size → Count e

  count : (e : ℕ) → Count e
  unfolding bytes_below
  count zero = none_yet (omega arith) refl
  count (suc e) = go (count e) (place b e)
    where
      go : Count e → Place b e → Count (suc e)
      go (none_yet h z) (before p q) = none_yet (omega arith) (omega (arith, z, q))
      go (none_yet h z) (within p p' q) = some (omega arith) (omega arith) (omega (arith, z, q))
      go (none_yet h z) (behind p q) = all (omega arith) (omega (arith, z, q))
      go (some h h' z) (before p q) = absurd (omega arith)
      go (some h h' z) (within p p' q) = some (omega arith) (omega arith) (omega (arith, z, q))
      go (some h h' z) (behind p q) = all (omega arith) (omega (arith, z, q))
      go (all h z) (before p q) = absurd (omega arith)
      go (all h z) (within p p' q) = absurd (omega arith)
      go (all h z) (behind p q) = all (omega arith) (omega (arith, z, q))

  count-all : (e : ℕ) → b.at + b.size ≤ e → bytes_below e b ≡ b.size
  count-all e h = go (count e)
    where
      go : Count e → bytes_below e b ≡ b.size
      go (none_yet p z) = omega (arith, z)
      go (some p p' z) = omega (arith, z)
      go (all p z) = z

below-sum : (e : ℕ) (bs : List Block) → Inside e bs → all_below e bs ≡ length_sum bs
unfolding length_sum
below-sum e [] h = below_none e
below-sum e (b ∷ bs) h = omega (arith, below_more e b bs, count-all b e h.0, below-sum e bs h.1)

-- a byte of b lies in no block that is apart from b
none-else : (b : Block) (bs : List Block) (i : ℕ) → b.at ≤ i → i < b.at + b.size → Apart (b ∷ []) bs → holders bs i ≡ 0
unfolding holders
none-else b [] i h k a = refl
none-else b (c ∷ cs) i h k a = go (apart-order b c.at c.size a.0) (place c i) (none-else b cs i h k a.1)
  where
    go : (c.at + c.size ≤ b.at) ⊎ (b.at + b.size ≤ c.at) → Place c i → holders cs i ≡ 0 → holds c i + holders cs i ≡ 0
    go o (before p q) r = omega (arith, q, r)
    go (inl o) (within p p' q) r = absurd (omega arith)
    go (inr o) (within p p' q) r = absurd (omega arith)
    go o (behind p q) r = omega (arith, q, r)

one-holder : (bs : List Block) (i : ℕ) → Fresh [] bs → holders bs i ≤ 1
unfolding holders
one-holder [] i f = omega arith
one-holder (b ∷ bs) i f =
    go (place b i) (one-holder bs i (fresh-after (b ∷ []) [] bs f.1 (apart_none bs))) (λ h k. none-else b bs i h k (fresh-apart (b ∷ []) bs f.1))
  where
    go : Place b i → holders bs i ≤ 1 → (b.at ≤ i → i < b.at + b.size → holders bs i ≡ 0) → holds b i + holders bs i ≤ 1
    go (before p q) l n = omega (arith, q, l)
    go (within p p' q) l n = omega (arith, q, n p p')
    go (behind p q) l n = omega (arith, q, l)

below-most : (e : ℕ) (bs : List Block) → Fresh [] bs → all_below e bs ≤ e
unfolding all_below
below-most zero bs f = omega arith
below-most (suc e) bs f = omega (arith, below-most e bs f, one-holder bs e f)

pub lengths-inside : (eof : ℕ) (bs : List Block) → Fresh [] bs → Inside eof bs → length_sum bs ≤ eof
lengths-inside eof bs f h = omega (arith, below-sum eof bs h, below-most eof bs f)

-- What entering blocks keeps of a list whose blocks share no byte and lie inside.
module _ {eof room : ℕ} {bs ms : List Block} (g : Grown eof room bs ms) where
  pub grown-apart : Fresh [] bs → Fresh [] ms
  grown-apart f = rw g.all (fresh-append [] bs g.new f g.fresh)

  pub grown-inside : Inside eof bs → Inside eof ms
  grown-inside h = rw g.all (inside-append eof bs g.new h g.inside)

  pub grown-lengths : length_sum bs ≤ length_sum ms
  grown-lengths = rw (g.all, lengths-append bs g.new) (omega arith)
