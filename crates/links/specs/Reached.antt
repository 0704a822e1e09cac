-- What the audit is to find: the hard links and sharings of each object, and what they reach from the root.
use Rattle.std.specs.Prelude.{ℕ, ◌+◌, ◌≡◌, eqb, if◌then◌else◌}
use mathlib.Core.List.{List, [], ◌∷◌, ◌++◌, Memᴰ}
use Rattle.format.specs.Limits.{blocks_most}
use Rattle.format.specs.Blocks.{Block}
use Rattle.format.specs.Result.{Result, value}
use Rattle.format.specs.Result as results
use Rattle.format.specs.Walk.{Walk, ret, done, run, ◌>>=◌}
use Rattle.format.specs.Superblock.{Superblock}
use Rattle.format.specs.Message.{Message}
use Rattle.format.specs.Header.{Object, group, dataset, committed, header_with, header_walk}
use Rattle.format.specs.Attribute.{read_attribute}
use Rattle.format.specs.Dataset.{dataset_walk}
use Rattle.format.specs.Sharing.{shared_by}
use Rattle.format.specs.Entry.{Entry, is_hard}
use Rattle.group.specs.Entries.{entries_walk}
use Rattle.ledger.specs.Links.{one_for}

-- what gives an address to the audit: a hard link of a group's entry, or a sharing, "each datatype message that shares it and each attribute whose
-- flags say so"
pub data Reference : Type 0 where
  hard_link : ℕ → Reference
  sharing : ℕ → Reference

-- the address that it gives
abbrev pub target : Reference → ℕ
target (hard_link a) = a
target (sharing a) = a

-- the hard links among entries
unfoldable pub hard_links_of : List Entry → List Reference
hard_links_of [] = []
hard_links_of (e ∷ es) = let rest = hard_links_of es in if is_hard e then hard_link e.header ∷ rest else rest

-- sharings of these addresses
unfoldable pub sharings_of : List ℕ → List Reference
sharings_of [] = []
sharings_of (a ∷ rest) = sharing a ∷ sharings_of rest

-- a visit that keeps the addresses that attributes share, in the order in which they are met
unfoldable pub keep_sharing : Message → List ℕ → Result (List ℕ)
keep_sharing m kept = if eqb m.type 0x000c then results.◌>>=◌ (read_attribute m.body) (λ addresses. value (kept ++ addresses)) else value kept

-- the references behind an object's header: a group's hard links; the sharing of a dataset's datatype message, where the dataset is read whole; a
-- committed datatype has none
unfoldable pub content_references : Superblock → Object → Walk (List Reference)
content_references s (group tree heap) = do
  es ← entries_walk s.leaf_k s.internal_k tree heap
  ret (hard_links_of es)
content_references s (dataset space type layout) = do
  d ← dataset_walk space type layout
  ret (sharings_of (shared_by d.type))
content_references s committed = ret []

-- an object read whole, for its references: the sharings of its attributes, "with its header's messages", then those behind the header
unfoldable pub references_at : Superblock → ℕ → Walk (List Reference)
references_at s at = do
  h ← header_with keep_sharing at []
  rs ← content_references s h.object
  ret (sharings_of h.found ++ rs)

-- the object at this address, read by itself, has these references
abbrev pub HasReferences : List ℕ → Superblock → ℕ → List Reference → Type 0
HasReferences im s at rs = (bs : List Block) × (run im s.end_of_file blocks_most (references_at s at) [] ≡ done rs bs)

-- P holds of each address and the references in its place; there are as many of the one as of the other
unfoldable pub Each : (ℕ → List Reference → Type 0) → List ℕ → List (List Reference) → Type 0
Each P [] [] = Unit {0}
Each P [] (rs ∷ rss) = ⊥
Each P (a ∷ rest) [] = ⊥
Each P (a ∷ rest) (rs ∷ rss) = P a rs × Each P rest rss

-- the objects at these addresses have these references, each its own
abbrev pub ReferencesOfAll : List ℕ → Superblock → List ℕ → List (List Reference) → Type 0
ReferencesOfAll im s addresses rss = Each (HasReferences im s) addresses rss

-- the number of hard links that give the address x
unfoldable pub hard_links : ℕ → List Reference → ℕ
hard_links x [] = 0
hard_links x (hard_link a ∷ rs) = one_for x a + hard_links x rs
hard_links x (sharing a ∷ rs) = hard_links x rs

-- the number of sharings that give the address x
unfoldable pub sharings : ℕ → List Reference → ℕ
sharings x [] = 0
sharings x (hard_link a ∷ rs) = sharings x rs
sharings x (sharing a ∷ rs) = one_for x a + sharings x rs

-- the number of hard links
unfoldable pub all_hard_links : List Reference → ℕ
all_hard_links [] = 0
all_hard_links (hard_link a ∷ rs) = 1 + all_hard_links rs
all_hard_links (sharing a ∷ rs) = all_hard_links rs

-- the number of sharings
unfoldable pub all_sharings : List Reference → ℕ
all_sharings [] = 0
all_sharings (hard_link a ∷ rs) = all_sharings rs
all_sharings (sharing a ∷ rs) = 1 + all_sharings rs

-- the addresses reached from the root by hard links and sharings
pub data Reached (im : List ℕ) (s : Superblock) : ℕ → Type 0 where
  at_root : Reached im s s.root
  by_reference : {a : ℕ} {rs : List Reference} (r : Reference) → Reached im s a → HasReferences im s a rs → Memᴰ r rs → Reached im s (target r)

-- the header at this address, read by itself, is a committed datatype's
abbrev pub IsCommitted : List ℕ → Superblock → ℕ → Type 0
IsCommitted im s at = (bs : List Block) × (run im s.end_of_file blocks_most (header_walk at) [] ≡ done committed bs)
