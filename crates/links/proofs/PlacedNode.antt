-- The faults of a heap are met in its header and its segment, those of a tree node and its keys in its block.
use Prim.Native.Nat.{ℕ, zero, suc, ◌+◌, ◌*◌, ◌≤◌}
use mathlib.Core.List.{List}
use mathlib.Core.Path.{refl}
use native.Mathlib.Omega.{arith}
use borrow.Author.Tests.{leb-true}
use lib.Dec.{leb, eqb}
use lib.ListN.{drop}
use Rattle.format.specs.Limits.{level_most}
use Rattle.format.specs.Bytes.{u8, u16, u32, u64}
use Rattle.format.specs.Blocks.{Block}
use Rattle.format.specs.Walk.{heap_block, segment_block, tree_block}
use Rattle.format.specs.FreeList.{free_list}
use Rattle.format.specs.Heap.{Heap, HEAP, heap_walk}
use Rattle.format.specs.Names.{read_text, key_text}
use Rattle.format.specs.Tree.{TREE, keys_walk, node_walk}
use Rattle.links.proofs.Numbered.{answered-text}
use Rattle.links.proofs.NumberedGroup.{list-answered}
use Rattle.links.proofs.PlacedBlocks.{HeldUpTo}
use Rattle.links.proofs.Placed.{Not13, not-13, Placed, Whatever, placed-ret, placed-block, placed-check, placed-located}

pub heap-placed : (bs : List Block) (at : ℕ) → Placed Whatever bs (heap_walk at)
unfolding heap_walk
heap-placed bs at =
    placed-block _ bs heap_block at 32 _ λ b cs _ header.
    let held = header.held at (omega arith) (omega arith) in
    placed-check _ cs (eqb (u32 b 0) HEAP) 7 at _ refl held λ _.
    placed-check _ cs (eqb (u8 b 4) 0) 7 at _ refl held λ _.
    placed-check _ cs (leb 8 (u64 b 8)) 9 at _ refl held λ long.
    placed-block _ cs segment_block (u64 b 24) (u64 b 8) _ λ seg ds _ segment.
    placed-located _ ds (u64 b 24) (free_list seg (u64 b 16)) _ (list-answered Not13 (not-13 7 refl) (not-13 8 refl) (not-13 9 refl) seg (u64 b 16))
    (segment.held (u64 b 24) (omega arith) (omega (arith, leb-true 8 (u64 b 8) long)))
    λ free _. placed-ret _ ds _ tt

-- of the last key one byte before e is enough
pub keys-placed : (bs : List Block) (h : Heap) (e n at : ℕ) (b : List ℕ) → HeldUpTo bs at e → at + 16 * n ≤ e + 15 →
    Placed Whatever bs (keys_walk h n at b)
unfolding keys_walk
keys-placed bs h e zero at b held l = placed-ret _ bs _ tt
keys-placed bs h e (suc n) at b held l =
    placed-located _ bs at (read_text (key_text h (u64 b 0))) _ (answered-text Not13 (not-13 9 refl) (key_text h (u64 b 0)))
    (held at (omega arith) (omega (arith, l))) λ key _.
    keys-placed bs h e n (at + 16) (drop 16 b) (λ x m k. held x (omega arith) k) (omega (arith, l))

-- at the end of a node's walk: its bytes are held, and it has no more keys than fit
abbrev pub NodeEnd : ℕ → ℕ → List Block → List ℕ → Type 0
NodeEnd k at bs b = (u16 b 6 ≤ 2 * k) × HeldUpTo bs at (at + (32 + 32 * k))

pub node-placed : (bs : List Block) (k at : ℕ) → Placed (NodeEnd k at) bs (node_walk k at)
unfolding node_walk
node-placed bs k at =
    placed-block _ bs tree_block at (32 + 32 * k) _ λ b cs _ node.
    let held = node.held at (omega arith) (omega arith) in
    placed-check _ cs (eqb (u32 b 0) TREE) 7 at _ refl held λ _.
    placed-check _ cs (eqb (u8 b 4) 0) 8 at _ refl held λ _.
    placed-check _ cs (leb (u8 b 5) level_most) 8 at _ refl held λ _.
    placed-check _ cs (leb (u16 b 6) (2 * k)) 8 at _ refl held λ most.
    placed-ret _ cs b (leb-true (u16 b 6) (2 * k) most, node.held)
