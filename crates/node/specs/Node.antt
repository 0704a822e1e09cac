-- What reading a node of the tree returns.
use Rattle.std.specs.Prelude.{ℕ, ◌+◌, ◌*◌, ◌≤◌, ◌<◌, List, ◌≡◌, eqb, leb, length, drop, Result, Ok, Err}
use Rattle.format.specs.Bytes.{part, u8, u16}
use Rattle.format.specs.Walk.{fault, Walk, ret, check, ◌>>=◌, ◌>>◌, run}
use Rattle.format.specs.Heap.{Heap}
use Rattle.format.specs.Tree.{node_walk, keys_walk}
use Rattle.walk.specs.Lent.{blocks_of, Ended, ended, stopped, Walked}
use Rattle.key.specs.Key.{KeyAt}
use Rattle.symbol.specs.declared.entry.Group.{Group}
use Rattle.format.specs.declared.Refusal.{Refusal}
use Rattle.node.specs.declared.NodeRead.{NodeRead}

-- the bytes of the node at `at`
abbrev pub node_bytes : List ℕ → Group → ℕ → List ℕ
node_bytes im g at = part im at (32 + 32 * g.internal_k)

-- how the reader's run ended, with so many blocks
abbrev pub node_end : List ℕ → Group → ℕ → ℕ → Result NodeRead Refusal → Ended (List ℕ)
node_end im g at count' (Ok n) = ended (node_bytes im g at) count'
node_end im g at count' (Err r) = stopped r

-- a node that was read lies inside the image, and these are its fields
abbrev pub NodeFields : List ℕ → Group → ℕ → ℕ → ℕ → Result NodeRead Refusal → Type 0
NodeFields im g at count count' (Ok n) =
    (at + (32 + 32 * g.internal_k) ≤ length im) × (n.level ≡ u8 im (at + 5)) × (n.entries ≡ u16 im (at + 6)) × (n.entries ≤ 2 * g.internal_k)
    × (count' ≡ count + 1)
NodeFields im g at count count' (Err r) = Unit {0}

pub record NodeIs (im ws : List ℕ) (g : Group) (count at : ℕ) (ws' : List ℕ) (count' : ℕ) (r : Result NodeRead Refusal) : Type 0 where
  pub walked : Walked ws ws' (node_end im g at count' r) (run im g.bounds.end_of_file g.bounds.room (node_walk g.internal_k at) (blocks_of count ws))
  pub fields : NodeFields im g at count count' r

-- a node of this level that isn't empty, with its keys
unfoldable pub branch_walk : Heap → ℕ → ℕ → ℕ → Walk (List ℕ)
branch_walk h k level at = do
  b ← node_walk k at
  check (eqb (u8 b 5) level) (fault 8 at)
  check (leb 1 (u16 b 6)) (fault 8 at)
  keys_walk h (u16 b 6 + 1) (at + 24) (drop 24 b)
  ret b

abbrev pub branch_end : List ℕ → Group → ℕ → ℕ → Result ℕ Refusal → Ended (List ℕ)
branch_end im g at count' (Ok n) = ended (node_bytes im g at) count'
branch_end im g at count' (Err r) = stopped r

-- such a node with n entries lies inside the image, and each of its keys is sound
abbrev pub BranchFields : List ℕ → List ℕ → Group → ℕ → ℕ → ℕ → Result ℕ Refusal → Type 0
BranchFields im seg g at count count' (Ok n) =
    (at + (32 + 32 * g.internal_k) ≤ length im) × (n ≡ u16 im (at + 6)) × (n ≤ 2 * g.internal_k) × (count' ≡ count + 1)
    × ((i : ℕ) → i < n + 1 → KeyAt im seg (at + 24 + 16 * i))
BranchFields im seg g at count count' (Err r) = Unit {0}

pub record BranchIs (im seg ws : List ℕ) (g : Group) (count level at : ℕ) (ws' : List ℕ) (count' : ℕ) (r : Result ℕ Refusal) : Type 0 where
  pub walked : (h : Heap) → h.segment ≡ seg → Walked ws ws' (branch_end im g at count' r)
      (run im g.bounds.end_of_file g.bounds.room (branch_walk h g.internal_k level at) (blocks_of count ws))
  pub fields : BranchFields im seg g at count count' r
