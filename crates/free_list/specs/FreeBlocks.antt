-- The free blocks of a segment as the chain that code follows.
use Rattle.std.specs.Prelude.{ℕ, zero, suc, ◌+◌, ◌*◌, ◌≤◌, ◌<◌, ◌≡◌, Bool, true, not, List, [], ◌∷◌, ◌++◌, leb, length, get_or, Option, Some, None}
use Rattle.format.specs.Bytes.{all_hold, u64}
use Rattle.format.specs.Blocks.{Block, block, overlaps_any}
use Rattle.format.specs.Result.{Result, value, answer}
use Rattle.format.specs.FreeList.{free_list}
use Rattle.free_map.specs.FreeMap.{MapOf}

-- n free blocks, from the one at the offset off on
unfoldable pub chain : ℕ → List ℕ → ℕ → List Block
chain zero seg off = []
chain (suc n) seg off = block off (u64 seg (off + 8)) ∷ chain n seg (u64 seg off)

-- the first 16 bytes of each of these blocks, its offset of the next one and its size, lie in the segment
abbrev pub Chained : ℕ → List ℕ → ℕ → Type 0
Chained zero seg off = Unit {0}
Chained (suc n) seg off = (off + 16 ≤ length seg) × Chained n seg (u64 seg off)

-- the free block at the offset off passes its tests, behind those met so far
unfoldable pub block_sound : List ℕ → List Block → ℕ → Bool
block_sound seg met off =
    let own = u64 seg (off + 8) in
    all_hold (leb (off + 16) (length seg) ∷ leb 16 own ∷ leb (off + own) (length seg) ∷ not (overlaps_any met off own) ∷ [])

-- the free list that a reader's answer stands for
abbrev pub free_of : List ℕ → ℕ → Option ℕ → Result (List Block)
free_of seg head (Some n) = value (chain n seg head)
free_of seg head None = answer 9

-- A map that is lent for the free list: no byte is free, and each byte of the segment has a cell; or it has no cells.
pub record Sized (map seg : List ℕ) : Type 0 where
  pub zeros : (k : ℕ) → get_or map k 0 ≡ 0
  pub long : 0 < length map → length seg ≤ 16 * length map

-- the first n blocks of the list can be followed again, and a map that has cells has their bytes
pub record Held (seg map : List ℕ) (head n : ℕ) : Type 0 where
  pub chained : Chained n seg head
  pub mapped : 0 < length map → MapOf map seg (chain n seg head)

-- the block at off was tested behind the blocks met; where it is sound, a map that has cells has it
pub record BlockAdded (seg map : List ℕ) (head met off : ℕ) (map' : List ℕ) (r : Bool) : Type 0 where
  pub sound : r ≡ block_sound seg (chain met seg head) off
  pub added : r ≡ true → 0 < length map' → MapOf map' seg (chain met seg head ++ (block off (u64 seg (off + 8)) ∷ []))
  pub long : length map' ≡ length map

-- the blocks of a sound list are held
abbrev pub HeldIf : List ℕ → ℕ → List ℕ → Option ℕ → Type 0
HeldIf seg head map (Some n) = Held seg map head n
HeldIf seg head map None = Unit {0}

-- the list was read as the definition has it, with a map that became another of the same length
pub record ListRead (seg map : List ℕ) (head : ℕ) (map' : List ℕ) (r : Option ℕ) : Type 0 where
  pub value : free_list seg head ≡ free_of seg head r
  pub held : HeldIf seg head map' r
  pub long : length map' ≡ length map
