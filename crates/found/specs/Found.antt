-- What a lookup is to find, and what is absent.
use Rattle.std.specs.Prelude.{ℕ, List, [], ◌∷◌, ◌++◌, ◌⊎◌, ◌≡◌}
use Rattle.format.specs.Blocks.{Block, room_of}
use Rattle.format.specs.declared.Refusal.{Refusal}
use Rattle.format.specs.Walk.{Outcome, done, refused, answer_of, run, ◌>>◌}
use Rattle.format.specs.Superblock.{Superblock, opened, open_image, superblock_walk}
use Rattle.format.specs.Header.{Object, header_walk}
use Rattle.format.specs.Dataset.{Dataset}
use Rattle.format.specs.Path.{components, parse_path}
use Rattle.format.specs.Lookup.{object, symbolic, kind_number}
use Rattle.format.specs.Describe.{describe_walk}
use Rattle.found.specs.Leads.{Leads, Lacks}

-- the outcome is a refusal with this answer, and these are the blocks that it leaves
abbrev pub RefusedWith : {A : Type 0} → Outcome A → ℕ → List Block → Type 0
RefusedWith o n bs = (r : Refusal) × (o ≡ refused r bs) × (answer_of r ≡ n)

-- the path has these components, and the image can be walked, by this superblock
pub record Asked (im path : List ℕ) (ps : List (List ℕ)) (s : Superblock) : Type 0 where
  pub parsed : parse_path path ≡ components ps
  pub walkable : open_image im ≡ opened s

-- the header at this address, read on a list that begins with the superblock, is sound: it is this object's, and its reading leaves these blocks
abbrev pub HeaderIs : List ℕ → Superblock → ℕ → ℕ → Object → List Block → Type 0
HeaderIs im s room at o bs = run im s.end_of_file room (superblock_walk s >> header_walk at) [] ≡ done o bs

-- the components lead from the root to the address of a sound header, of an object of this kind
pub record LeadsToObject (im : List ℕ) (s : Superblock) (room : ℕ) (ps : List (List ℕ)) (kind address : ℕ) (bs : List Block) : Type 0 where
  pub path : Leads im s room s.root ps (object address)
  pub found : Object
  pub header : HeaderIs im s room address found bs
  pub of_kind : kind ≡ kind_number found

-- the components lead from the root to a symbolic link, which has the kind 4 and no address, and leaves no block
pub record LeadsToSymbolic (im : List ℕ) (s : Superblock) (room : ℕ) (ps : List (List ℕ)) (kind address : ℕ) (bs : List Block) : Type 0 where
  pub path : Leads im s room s.root ps symbolic
  pub of_kind : kind ≡ 4
  pub no_address : address ≡ 0
  pub no_blocks : bs ≡ []

-- the path is found, with so many words lent: its kind, its address, and the blocks that are left
pub record IsFound (im path : List ℕ) (lent kind address : ℕ) (bs : List Block) : Type 0 where
  pub parts : List (List ℕ)
  pub superblock : Superblock
  pub asked : Asked im path parts superblock
  pub leads : LeadsToObject im superblock (room_of lent) parts kind address bs ⊎ LeadsToSymbolic im superblock (room_of lent) parts kind address bs

-- the path is absent: some of its components lead to a group whose sound index lacks the next
pub record IsAbsent (im path : List ℕ) (lent : ℕ) (bs : List Block) : Type 0 where
  pub before : List (List ℕ)
  pub next : List ℕ
  pub after : List (List ℕ)
  pub superblock : Superblock
  pub asked : Asked im path (before ++ (next ∷ after)) superblock
  pub at : ℕ
  pub leads : Leads im superblock (room_of lent) superblock.root before (object at)
  pub lacks : Lacks im superblock (room_of lent) at next bs

-- the path is described, with so many words lent: it leads to a dataset, whose header, messages and data are sound, with the blocks that are left
pub record IsDescribed (im path : List ℕ) (lent : ℕ) (d : Dataset) (bs : List Block) : Type 0 where
  pub parts : List (List ℕ)
  pub superblock : Superblock
  pub asked : Asked im path parts superblock
  pub address : ℕ
  pub leads : Leads im superblock (room_of lent) superblock.root parts (object address)
  pub read : run im superblock.end_of_file (room_of lent) (superblock_walk superblock >> describe_walk address) [] ≡ done d bs
