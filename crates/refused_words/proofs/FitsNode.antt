-- A heap and a tree node at addresses of 64 bits.
use Prim.Native.Nat.{ℕ, zero, suc, ◌+◌, ◌*◌, ◌^◌, ◌<◌}
use mathlib.Core.List.{List}
use native.Mathlib.Omega.{arith}
use lib.Dec.{leb, eqb}
use lib.ListN.{drop}
use Rattle.format.specs.Limits.{level_most}
use Rattle.format.specs.Bytes.{u8, u16, u32, u64}
use Rattle.format.specs.Walk.{heap_block, segment_block, tree_block}
use Rattle.format.specs.FreeList.{free_list}
use Rattle.format.specs.Heap.{Heap, HEAP, heap_walk}
use Rattle.format.specs.Names.{read_text, key_text}
use Rattle.format.specs.Tree.{TREE, keys_walk, node_walk}
use Rattle.links.proofs.Gives.{Whatever, gives-whatever}
use Rattle.demand.specs.Bytes.{IsBytes}
use Rattle.refused_words.specs.Words.{IsWord}
use Rattle.refused_words.proofs.ReadWords.{u64-word}
use Rattle.refused_words.proofs.Fits.{Fits, fits-ret, fits-block, fits-check, fits-located}

pub heap-fits : (at : ℕ) → IsWord at → Fits Whatever (heap_walk at)
unfolding heap_walk
heap-fits at a =
    fits-block _ heap_block at 32 _ a (omega arith) λ b i.
    fits-check _ (eqb (u32 b 0) HEAP) 7 at _
    (fits-check _ (eqb (u8 b 4) 0) 7 at _
    (fits-check _ (leb 8 (u64 b 8)) 9 at _
    (fits-block _ segment_block (u64 b 24) (u64 b 8) _ (u64-word b 24 i) (u64-word b 8 i) λ seg _.
    fits-located _ Whatever (u64 b 24) (free_list seg (u64 b 16)) _ (gives-whatever _) λ free _.
    fits-ret _ _ tt)))

pub keys-fit : (h : Heap) (n at : ℕ) (b : List ℕ) → Fits Whatever (keys_walk h n at b)
unfolding keys_walk
keys-fit h zero at b = fits-ret _ _ tt
keys-fit h (suc n) at b =
    fits-located _ Whatever at (read_text (key_text h (u64 b 0))) _ (gives-whatever _) λ key _. keys-fit h n (at + 16) (drop 16 b)

-- K fits 16 bits
pub node-fits : (k at : ℕ) → k < 2 ^ 16 → IsWord at → Fits IsBytes (node_walk k at)
unfolding node_walk
node-fits k at l a =
    fits-block _ tree_block at (32 + 32 * k) _ a (omega (arith, l)) λ b i.
    fits-check _ (eqb (u32 b 0) TREE) 7 at _
    (fits-check _ (eqb (u8 b 4) 0) 8 at _
    (fits-check _ (leb (u8 b 5) level_most) 8 at _
    (fits-check _ (leb (u16 b 6) (2 * k)) 8 at _
    (fits-ret IsBytes b i))))
