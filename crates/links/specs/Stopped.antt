-- An audit that is refused: at the superblock, or behind it in the walk of an object; whose blocks are whose.
use Rattle.std.specs.Prelude.{ℕ, ◌<◌, List, [], ◌∷◌, ◌++◌, ◌≡◌, length, get_or}
use Rattle.format.specs.Blocks.{Block, block_of, superblock_kind, no_object, owner_after, last_owner}
use Rattle.format.specs.declared.Refusal.{Refusal}
use Rattle.format.specs.declared.Refusal.TheVariants.{Fault, NotEntered}
use Rattle.format.specs.Walk.{not_entered, refused, run}
use Rattle.format.specs.Superblock.{Superblock}
use Rattle.format.specs.Sharing.{Found}
use Rattle.format.specs.Object.{object_walk}
use Rattle.ledger.specs.Links.{addresses_of}
use Rattle.links.specs.Owners.{owned_by, WalkEnters}
use Rattle.links.specs.Placed.{HeldBy}

-- the superblock can't be entered
abbrev pub StoppedSuperblock : Superblock → Refusal → List Block → Type 0
StoppedSuperblock s r bs = (bs ≡ []) × ((n : ℕ) × (r ≡ not_entered n superblock_kind 0 s.size []))

pub record StoppedObject (im : List ℕ) (room : ℕ) (s : Superblock) (r : Refusal) (bs : List Block) : Type 0 where
  -- the object whose walk is refused
  pub number : ℕ
  pub address : ℕ
  -- what was found before it
  pub found : Found
  pub counted : number < length found.objects
  pub listed : get_or (addresses_of found.objects) number 0 ≡ address
  -- the blocks of the superblock and of the objects before it, and those that its own walk has entered
  pub before : List Block
  pub own : List Block
  pub all : bs ≡ before ++ own
  pub stopped : run im s.end_of_file room (object_walk s number address found) before ≡ refused r bs
  -- "all ones the superblock"
  pub superblock : owned_by no_object bs ≡ block_of superblock_kind 0 s.size ∷ []
  -- "the number of the object it was walked for, 0 being the root"
  pub earlier : (i : ℕ) → i < number → WalkEnters im room s i (get_or (addresses_of found.objects) i 0) (owned_by i bs)
  pub last : owned_by number bs ≡ own
  pub none : (o : ℕ) → number < o → (o ≡ no_object → ⊥) → owned_by o bs ≡ []
  -- a block that can't be entered is this object's
  pub refused_of : (n kind a size met : ℕ) → r ≡ NotEntered n kind a size met → owner_after (last_owner no_object bs) kind ≡ number
  -- the block that holds the place of a fault is this object's
  pub fault_of : (n at : ℕ) → r ≡ Fault n at → HeldBy own at
