-- What reading a group returns.
use Rattle.std.specs.Prelude.{ℕ, ◌^◌, ◌≤◌, ◌<◌, List, [], length, Result, Ok, Err}
use Rattle.format.specs.Limits.{blocks_most, image_most}
use Rattle.format.specs.Walk.{Walk, ret, located, ◌>>=◌, run}
use Rattle.format.specs.FreeList.{free_list}
use Rattle.format.specs.Tree.{tree_walk, group_walk}
use Rattle.walk.specs.Lent.{blocks_of, length_sum, Lent, Ended, ended, stopped, Walked}
use Rattle.laws.specs.Blocks.{Fresh, Inside}
use Rattle.visit.specs.Visit.{Visit}
use Rattle.heap.specs.Segment.{heap_with}
use Rattle.heap.specs.Header.{OpenHeap, open_heap}
use Rattle.heap.specs.declared.header.Heap.{Heap}
use Rattle.format.specs.declared.Refusal.{Refusal}

-- what is known of the image and its superblock
pub record Settings (im : List ℕ) (eof room leaf_k internal_k : ℕ) : Type 0 where
  pub file : eof ≤ length im
  pub small : eof < 2 ^ 32
  pub bounded : eof ≤ image_most
  pub most : room ≤ blocks_most
  pub leaf : leaf_k < 65536
  pub internal : internal_k < 65536

-- The blocks that a group is read with. The links found are at most the bytes of the blocks entered; these lie inside the end of file, each once.
pub record Ready (ws : List ℕ) (eof room count links_found : ℕ) : Type 0 where
  pub lent : Lent ws count room
  pub apart : Fresh [] (blocks_of count ws)
  pub inside : Inside eof (blocks_of count ws)
  pub links : links_found ≤ length_sum (blocks_of count ws)

-- what was found and how many blocks were entered then, or the refusal
abbrev pub group_end : {S : Type 0} → S → ℕ → Result (Unit {0}) Refusal → Ended S
group_end found count (Ok u) = ended found count
group_end found count (Err r) = stopped r

abbrev pub ReadyIf : List ℕ → ℕ → ℕ → ℕ → ℕ → Result (Unit {0}) Refusal → Type 0
ReadyIf ws eof room count links (Ok u) = Ready ws eof room count links
ReadyIf ws eof room count links (Err r) = Unit {0}

-- what stands behind a heap that was entered: its free list, then the tree
unfoldable pub contents_walk : {S : Type 0} → (leaf_k internal_k tree : ℕ) → OpenHeap → Visit S → S → Walk S
contents_walk leaf_k internal_k tree o visit found = do
  free ← located o.place (free_list o.segment o.head)
  s ← tree_walk (record { leaf_k = leaf_k; internal_k = internal_k; heap = heap_with o.segment free; visit = visit }) tree
      (record { last = []; found = found })
  ret s.found

-- what stands behind a heap was read as its walk reads it
pub record ContentsAre {S : Type 0} (im ws : List ℕ) (visit : Visit S) (eof room leaf_k internal_k tree : ℕ) (heap : Heap) (count : ℕ) (found : S)
    (ws' : List ℕ) (count' links' : ℕ) (found' : S) (r : Result (Unit {0}) Refusal) : Type 0 where
  pub walked : Walked ws ws' (group_end found' count' r) (run im eof room
      (contents_walk leaf_k internal_k tree (open_heap im heap) visit found) (blocks_of count ws))
  pub ready : ReadyIf ws' eof room count' links' r

-- a group was read as its walk reads it
pub record GroupIs {S : Type 0} (im ws : List ℕ) (visit : Visit S) (eof room leaf_k internal_k tree heap count : ℕ) (found : S) (ws' : List ℕ)
    (count' links' : ℕ) (found' : S) (r : Result (Unit {0}) Refusal) : Type 0 where
  pub walked : Walked ws ws' (group_end found' count' r) (run im eof room (group_walk leaf_k internal_k tree heap visit found) (blocks_of count ws))
  pub ready : ReadyIf ws' eof room count' links' r
