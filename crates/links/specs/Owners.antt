-- "Show that an object's blocks are exactly those its walk enters, and that no byte has two owners."
use Rattle.std.specs.Prelude.{ℕ, zero, suc, ◌+◌, ◌≤◌, ◌<◌, List, [], ◌∷◌, ◌++◌, ◌≡◌, eqb, length, get_or, if◌then◌else◌}
use Rattle.format.specs.Blocks.{Block, block_of, block, superblock_kind, header_kind, no_object, owner_after}
use Rattle.format.specs.Walk.{done, run}
use Rattle.format.specs.Superblock.{Superblock}
use Rattle.format.specs.Ledger.{Linked}
use Rattle.format.specs.Sharing.{Found}
use Rattle.format.specs.Object.{object_walk}
use Rattle.ledger.specs.Links.{addresses_of}
use Rattle.links.specs.Reached.{Reference, references_at}

-- the blocks whose number is o, in order, where p is the number of the block before them; the numbers run as in `block_words`
unfoldable pub owned_after : ℕ → ℕ → List Block → List Block
owned_after p o [] = []
owned_after p o (b ∷ bs) =
    let q = owner_after p b.kind in
    let rest = owned_after q o bs in
    if eqb q o then b ∷ rest else rest

-- the blocks of a whole list whose number is o
abbrev pub owned_by : ℕ → List Block → List Block
owned_by o bs = owned_after no_object o bs

-- those of n objects one after the other, from number i on
unfoldable pub owned_from : ℕ → ℕ → List Block → List Block
owned_from zero i bs = []
owned_from (suc n) i bs = owned_by i bs ++ owned_from n (i + 1) bs

-- every block is of a kind of which K holds
abbrev pub AllKinds : (ℕ → Type 0) → List Block → Type 0
AllKinds K [] = Unit {0}
AllKinds K (b ∷ bs) = K b.kind × AllKinds K bs

-- the addresses of the headers, in order
unfoldable pub headers_of : List Block → List ℕ
headers_of [] = []
headers_of (b ∷ bs) = let rest = headers_of bs in if eqb b.kind header_kind then b.at ∷ rest else rest

-- "exactly those its walk enters": the walk of object i, at the address at, is done from an empty list and leaves exactly these blocks
pub record WalkEnters (im : List ℕ) (room : ℕ) (s : Superblock) (i at : ℕ) (bs : List Block) : Type 0 where
  -- what was found before the object and after it
  pub before : Found
  pub after : Found
  pub walked : run im s.end_of_file room (object_walk s i at before) [] ≡ done after bs
  -- the same blocks where the object is read for its references, which depends on nothing that was found before
  pub references : List Reference
  pub read : run im s.end_of_file room (references_at s at) [] ≡ done references bs
  -- the header at that address is the first of them
  pub size : ℕ
  pub others : List Block
  pub header : bs ≡ block_of header_kind at size ∷ others

-- the blocks bs of an audit that is done with the ledger os
pub record Owned (im : List ℕ) (room : ℕ) (s : Superblock) (os : List Linked) (bs : List Block) : Type 0 where
  -- "all ones the superblock"
  pub superblock : owned_by no_object bs ≡ block_of superblock_kind 0 s.size ∷ []
  -- "the number of the object it was walked for, 0 being the root"
  pub objects : (i : ℕ) → i < length os → WalkEnters im room s i (get_or (addresses_of os) i 0) (owned_by i bs)
  -- no block has another number, and each object's blocks stand together, in the order of the objects
  pub none : (o : ℕ) → length os ≤ o → (o ≡ no_object → ⊥) → owned_by o bs ≡ []
  pub whole : bs ≡ owned_by no_object bs ++ owned_from (length os) 0 bs
  -- the headers are the ledger's objects, in its order
  pub headers : headers_of bs ≡ addresses_of os

-- the block holds the byte x
abbrev pub HoldsByte : Block → ℕ → Type 0
HoldsByte b x = (b.at ≤ x) × (x < b.at + b.size)

-- "no byte has two owners": two places of the list whose blocks hold one byte are one place; a place behind the list's end has no byte
abbrev pub OneOwner : List Block → Type 0
OneOwner bs = (j k x : ℕ) → HoldsByte (get_or bs j (block 0 0)) x → HoldsByte (get_or bs k (block 0 0)) x → j ≡ k
