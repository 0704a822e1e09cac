-- Laws of the chain of free blocks, and of a search in it.
use Prim.Native.Nat.{ℕ, zero, suc, ◌+◌, ◌-◌, ◌≤◌, ◌<◌}
use mathlib.Core.Bool.{Bool, true, false}
use mathlib.Core.List.{List, [], ◌∷◌, ◌++◌}
use mathlib.Core.Path.{◌≡◌, refl, ap, sym, ◌∙◌}
use native.Mathlib.Omega.{arith}
use lib.ListN.{length}
use Rattle.format.specs.Bytes.{u64}
use Rattle.format.specs.Blocks.{Block, block, overlaps_any}
use Rattle.block_index.proofs.Overlaps.{overlaps-hit, overlaps-not-below, overlaps-not-above}
use Rattle.free_list.specs.FreeBlocks.{chain, Chained}

-- the offset behind n blocks of the chain
unfoldable pub follow : ℕ → List ℕ → ℕ → ℕ
follow zero seg off = off
follow (suc n) seg off = follow n seg (u64 seg off)

pub follow-next : (n : ℕ) (seg : List ℕ) (off : ℕ) → follow (suc n) seg off ≡ u64 seg (follow n seg off)
unfolding follow
follow-next zero seg off = refl
follow-next (suc n) seg off = follow-next n seg (u64 seg off)

-- one block more, at the end of the chain
pub chain_snoc : (n : ℕ) (seg : List ℕ) (off : ℕ) → chain n seg off ++ (block (follow n seg off) (u64 seg (follow n seg off + 8)) ∷ []) ≡ chain (suc n) seg off
unfolding chain follow
chain_snoc zero seg off = refl
chain_snoc (suc n) seg off = ap (λ (bs : List Block). block off (u64 seg (off + 8)) ∷ bs) (chain_snoc n seg (u64 seg off))

pub chained-snoc : (n : ℕ) (seg : List ℕ) (off : ℕ) → Chained n seg off → follow n seg off + 16 ≤ length seg → Chained (suc n) seg off
unfolding follow
chained-snoc zero seg off c h = (h, tt)
chained-snoc (suc n) seg off c h = (c.0, chained-snoc n seg (u64 seg off) c.1 h)

-- the first of the blocks that are left, and the others
module _ (seg : List ℕ) (count i at : ℕ) (h : i < count) (c : Chained (count - i) seg at) where
  left : Chained (suc (count - (i + 1))) seg at
  left = let e : count - i ≡ suc (count - (i + 1)) = omega arith in rw e at c

  pub chained-here : at + 16 ≤ length seg
  chained-here = left.0

  pub chained-next : Chained (count - (i + 1)) seg (u64 seg at)
  chained-next = left.1

-- The search, before the ith block: `whole` is what it will have found. It is found in the ith block or behind it.
pub search-turn : (seg : List ℕ) (count i at own off size : ℕ) (whole : Bool) → i < count → own ≡ u64 seg (at + 8) →
    whole ≡ overlaps_any (chain (count - i) seg at) off size → whole ≡ overlaps_any (block at own ∷ chain (count - (i + 1)) seg (u64 seg at)) off size
unfolding chain
search-turn seg count i at own off size whole h o e = let f : count - i ≡ suc (count - (i + 1)) = omega arith in e ∙ rw (f, o)

-- One turn of it, by the offset and the size of the ith block.
module _ (at own : ℕ) (rest : List Block) (off size : ℕ) (whole : Bool) (e : whole ≡ overlaps_any (block at own ∷ rest) off size) where
  pub search-hit : at < off + size → off < at + own → true ≡ whole
  unfolding overlaps_any
  search-hit l k = sym (e ∙ rw (overlaps-hit 0 at own off size l k))

  pub search-below : off + size ≤ at → whole ≡ overlaps_any rest off size
  unfolding overlaps_any
  search-below l = e ∙ rw (overlaps-not-below 0 at own off size l)

  pub search-above : at + own ≤ off → whole ≡ overlaps_any rest off size
  unfolding overlaps_any
  search-above l = e ∙ rw (overlaps-not-above 0 at own off size l)

pub search-end : (seg : List ℕ) (count i at off size : ℕ) (whole : Bool) → count ≤ i → whole ≡ overlaps_any (chain (count - i) seg at) off size → false ≡ whole
unfolding overlaps_any chain
search-end seg count i at off size whole h e = let z : count - i ≡ 0 = omega arith in sym (e ∙ rw z)
