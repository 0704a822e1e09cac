-- What walking an object of the audit returns and leaves.
use Rattle.std.specs.Prelude.{ℕ, true, false, ◌≡◌, List, Result, Ok, Err}
use Rattle.format.specs.declared.Refusal.{Refusal}
use Rattle.format.specs.Walk.{Walk, run, fault, located, ◌>>=◌}
use Rattle.format.specs.Header.{Object, dataset}
use Rattle.format.specs.Object.{content_walk}
use Rattle.format.specs.Sharing.{Found, known}
use Rattle.walk.specs.Lent.{blocks_of, Lent, Ended, ended, stopped, Walked}
use Rattle.sharing.specs.Sharing.{found_of, Counting, KindKnown}
use Rattle.group.specs.Group.{Settings}
use Rattle.superblock.specs.Superblock.{FieldsBounded, superblock_of}
use Rattle.superblock.specs.declared.Superblock.{Superblock}
use Rattle.superblock.specs.declared.File.{File}
use Rattle.walk.specs.declared.blocks.Blocks.{Blocks}
use Rattle.sharing.specs.declared.Found as lent
use Rattle.message.specs.declared.Bodies.{Bodies}
use Rattle.message.specs.Message.{message_of}
use Rattle.dataset.specs.Dataset.{BodiesInside}

-- what is known of an image with this superblock
abbrev pub Opened : List ℕ → Superblock → ℕ → Type 0
Opened im s room = Settings im s.end_of_file room s.leaf_k s.internal_k

-- what is known of the superblock of an image that was opened
abbrev pub Bounded : List ℕ → Superblock → Type 0
Bounded im s = FieldsBounded im (Ok s)

-- the lists that an object is walked with, and so many links to spare
pub record Listed (ws addresses counts marks : List ℕ) (eof room count objects spare : ℕ) : Type 0 where
  pub lent : Lent ws count room
  pub counting : Counting addresses counts marks objects eof (blocks_of count ws) spare

-- the numbers of blocks entered and of objects found
pub record ObjectRead : Type 0 where
  pub count : ℕ
  pub objects : ℕ

-- a part that was walked up to these numbers, or the refusal
abbrev pub walked_to : ℕ → ℕ → Result (Unit {0}) Refusal → Result ObjectRead Refusal
walked_to count objects (Ok u) = Ok (record { count = count; objects = objects })
walked_to count objects (Err r) = Err r

-- what was found, with the number of blocks then entered, or the refusal
abbrev pub object_end : List ℕ → List ℕ → List ℕ → Result ObjectRead Refusal → Ended Found
object_end addresses counts marks (Ok o) = ended (found_of addresses counts marks o.objects) o.count
object_end addresses counts marks (Err r) = stopped r

abbrev pub ListedIf : List ℕ → List ℕ → List ℕ → List ℕ → ℕ → ℕ → Result ObjectRead Refusal → Type 0
ListedIf ws addresses counts marks eof room (Ok o) = Listed ws addresses counts marks eof room o.count o.objects 0
ListedIf ws addresses counts marks eof room (Err r) = Unit {0}

-- A part w of the audit was walked, from what was found before it to what is found with it
pub record FoundWalked (im ws addresses counts marks : List ℕ) (s : Superblock) (room : ℕ) (w : Found → Walk Found) (count objects : ℕ)
    (ws' addresses' counts' marks' : List ℕ) (r : Result ObjectRead Refusal) : Type 0 where
  pub walked : Walked ws ws' (object_end addresses' counts' marks' r) (run im s.end_of_file room (w (found_of addresses counts marks objects))
      (blocks_of count ws))
  pub listed : ListedIf ws' addresses' counts' marks' s.end_of_file room r

-- behind the header of the i-th object, which is at the address at: its kind is known, then its contents are walked
abbrev pub behind_header : Superblock → ℕ → ℕ → Object → Found → Walk Found
behind_header s i at o f = located at (known i o f) >>= content_walk (superblock_of s) o

-- the kind of the i-th object is known, and it is no committed datatype; one that a sharing gave is refused at its header
abbrev pub KnownAt : lent.Found → (i at : ℕ) → lent.Found → Result (Unit {0}) Refusal → Type 0
KnownAt f i at f' (Ok u) = KindKnown f.marks.now i f'.marks.now true
KnownAt f i at f' (Err r) = KindKnown f.marks.now i f'.marks.now false × (r ≡ fault 10 at)

-- so of the values that the functions are lent: lists that an object is walked with
abbrev pub ListedWith : File → Blocks → lent.Found → ℕ → Type 0
ListedWith file b f spare =
    Listed b.words.now f.objects.now.addresses.now f.objects.now.counts.now f.marks.now file.superblock.end_of_file file.room b.count f.objects.now.count spare

-- a part of the audit that was walked in them
abbrev pub WalkedWith : File → Blocks → lent.Found → (Found → Walk Found) → Blocks → lent.Found → Result (Unit {0}) Refusal → Type 0
WalkedWith file b f w b' f' r =
    FoundWalked file.image.now b.words.now f.objects.now.addresses.now f.objects.now.counts.now f.marks.now file.superblock file.room w b.count f.objects.now.count
    b'.words.now f'.objects.now.addresses.now f'.objects.now.counts.now f'.marks.now (walked_to b'.count f'.objects.now.count r)

-- a dataset with these bodies of its messages
abbrev pub dataset_of : File → Bodies → Object
dataset_of file b =
    dataset (message_of file.image.now 0x0001 b.space) (message_of file.image.now 0x0003 b.datatype) (message_of file.image.now 0x0008 b.layout)

-- these lie in the image
abbrev pub DatasetInside : File → Bodies → Type 0
DatasetInside file b = BodiesInside file.image.now b.space b.datatype b.layout
