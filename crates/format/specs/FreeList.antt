-- The free list of a local heap's data segment (FF III.D).
use Rattle.std.specs.Prelude.{ℕ, zero, suc, ◌+◌, List, [], ◌∷◌, ◌++◌, not, ◌||◌, length, leb, eqb, if◌then◌else◌}
use Rattle.format.specs.Bytes.{u64, undefined_address}
use Rattle.format.specs.Blocks.{Block, block, overlaps_any}
use Rattle.format.specs.Result.{Result, value, answer, check, ◌>>=◌, ◌>>◌}

-- The free blocks from the one at the offset off on, behind those met so far. "Free block: next offset, own size (16 or more, header
-- included). Next 1 ends the list .. Free blocks lie in the segment and don't overlap .. else 9."
-- The fuel is the segment's size; blocks that take 16 bytes or more each and don't overlap are fewer, so it lasts.
unfoldable pub free_blocks : ℕ → List ℕ → ℕ → List Block → Result (List Block)
free_blocks zero seg off met = answer 9
free_blocks (suc fuel) seg off met =
    let next = u64 seg off in
    let own = u64 seg (off + 8) in
    let found = met ++ (block off own ∷ []) in
    let rest = free_blocks fuel seg next found in
    do
      check (leb (off + 16) (length seg)) 9
      check (leb 16 own) 9
      check (leb (off + own) (length seg)) 9
      check (not (overlaps_any met off own)) 9
      if eqb next 1 then value found else rest

-- "head 1 or undefined means no list"
unfoldable pub free_list : List ℕ → ℕ → Result (List Block)
free_list seg head =
    let blocks = free_blocks (length seg) seg head [] in
    if eqb head 1 || eqb head undefined_address then value [] else blocks
