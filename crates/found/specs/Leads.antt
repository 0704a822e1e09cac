-- Where a path leads: from group to group by the hard links of sound indexes.
use Rattle.std.specs.Prelude.{ℕ, true, false, ◌≡◌}
use mathlib.Core.List.{List, [], ◌∷◌, Memᴰ}
use Rattle.format.specs.Blocks.{Block}
use Rattle.format.specs.Walk.{Walk, refuse, fault, no_place, done, run, ◌>>=◌, ◌>>◌}
use Rattle.format.specs.Superblock.{Superblock, superblock_walk}
use Rattle.format.specs.Header.{Object, group, dataset, committed, header_walk}
use Rattle.format.specs.Entry.{Entry, is_hard}
use Rattle.format.specs.Lookup.{Target, object, symbolic}
use Rattle.group.specs.Entries.{entries_walk, NoneNamed}

-- the entries of a group; an object that isn't one is refused, as a lookup in it is
unfoldable pub index_of : Superblock → Object → Walk (List Entry)
index_of s (group tree heap) = entries_walk s.leaf_k s.internal_k tree heap
index_of s (dataset space type layout) = refuse (fault 17 no_place)
index_of s committed = refuse (fault 17 no_place)

-- the index of the group at an address, read whole on a list that begins with the superblock
unfoldable pub index_walk : Superblock → ℕ → Walk (List Entry)
index_walk s at = do
  superblock_walk s
  o ← header_walk at
  index_of s o

-- with room for so many blocks, the group at this address is sound, has these entries, and its reading leaves these blocks
abbrev pub IndexIs : List ℕ → Superblock → ℕ → ℕ → List Entry → List Block → Type 0
IndexIs im s room at es bs = run im s.end_of_file room (index_walk s at) [] ≡ done es bs

-- the sound index of the group at this address holds this entry, under this name
pub record Holds (im : List ℕ) (s : Superblock) (room at : ℕ) (name : List ℕ) (e : Entry) (bs : List Block) : Type 0 where
  pub entries : List Entry
  pub index : IndexIs im s room at entries bs
  pub member : Memᴰ e entries
  pub named : e.name ≡ name

-- the sound index of the group at this address holds no entry of this name
pub record Lacks (im : List ℕ) (s : Superblock) (room at : ℕ) (name : List ℕ) (bs : List Block) : Type 0 where
  pub entries : List Entry
  pub index : IndexIs im s room at entries bs
  pub none : NoneNamed name entries

-- Leads at ps t: from the object at this address, the components ps lead to t.
pub data Leads (im : List ℕ) (s : Superblock) (room : ℕ) : ℕ → List (List ℕ) → Target → Type 0 where
  -- no component leads to the object itself
  here : {at : ℕ} → Leads im s room at [] (object at)
  -- a component that is a hard link leads on from the object linked to
  by_link : {at : ℕ} {p : List ℕ} {ps : List (List ℕ)} {t : Target} {e : Entry} {bs : List Block} →
      Holds im s room at p e bs → is_hard e ≡ true → Leads im s room e.header ps t → Leads im s room at (p ∷ ps) t
  -- a last component that is a symbolic link leads to it
  to_symbolic : {at : ℕ} {p : List ℕ} {e : Entry} {bs : List Block} → Holds im s room at p e bs → is_hard e ≡ false → Leads im s room at (p ∷ []) symbolic
