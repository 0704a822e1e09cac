-- What the dataset walk's answer means.
use Rattle.std.specs.Prelude.{ℕ, ◌+◌, ◌*◌, ◌≤◌, List, Bool, length, Result, Ok, Err}
use Rattle.format.specs.Bytes.{part}
use Rattle.format.specs.Message.{Message}
use Rattle.format.specs.Dataspace.{Dataspace, read_dataspace}
use Rattle.format.specs.Layout.{read_layout}
use Rattle.format.specs.Dataset.{head_at, fills, read_type, storage_walk}
use Rattle.format.specs.Walk.{Walk, ret, refuse, fault, located, check, ◌>>=◌, ◌>>◌}
use Rattle.walk.specs.Lent.{Ended, ended, stopped}
use Rattle.message.specs.declared.Body.{Body}
use Rattle.message.specs.Message.{message_of}
use Rattle.dataspace.specs.Dataspace.{space_of, SpaceInside}
use Rattle.datatype.specs.Datatype.{type_of}
use Rattle.layout.specs.Layout.{layout_of}
use Rattle.dataset.specs.declared.dataset.Dataset.{Dataset}
use Rattle.dataset.specs.declared.dataset.Parts.{Parts}
use Rattle.format.specs.declared.Refusal.{Refusal}

-- a message's body lies in the image
abbrev pub Inside : List ℕ → Body → Type 0
Inside im b = b.place + b.size ≤ length im

-- the bytes of a message's body
abbrev pub body_of : List ℕ → Body → List ℕ
body_of im b = part im b.place b.size

-- the three bodies lie in the image
pub record BodiesInside (im : List ℕ) (space type layout : Body) : Type 0 where
  pub space_inside : Inside im space
  pub type_inside : Inside im type
  pub layout_inside : Inside im layout

-- the dataspace message's body lies in the image, and the sizes in the body
pub record SizesInside (im : List ℕ) (space : Body) (d : Dataset) : Type 0 where
  pub space_inside : Inside im space
  pub sizes_inside : 8 + 8 * d.dimensions.rank ≤ length (body_of im space)

-- a dataset by what was read of its messages; b is the body of the dataspace message
abbrev pub dataset_of : List ℕ → Dataset → Rattle.format.specs.Dataset.Dataset
dataset_of b d = record { space = space_of b d.dimensions.rank d.dimensions.maxima_stored; type = type_of d.datatype; layout = layout_of d.layout }

-- "elements times element size .. equals the stored size"
abbrev pub data_fills : Rattle.format.specs.Dataset.Dataset → Bool
data_fills d = fills d.space d.type d.layout

-- dataspace and datatype as the definitions have them
pub record SpaceAndType : Type 0 where
  pub space : Dataspace
  pub type : Rattle.format.specs.Datatype.Datatype

-- the dataset walk before its layout
unfoldable pub parts_walk : Message → Message → Walk SpaceAndType
parts_walk space type = do
  d ← located (head_at space) (read_dataspace space.body)
  t ← located (head_at type) (read_type type)
  ret (record { space = d; type = t })

-- what was read of the dataspace and the datatype message; b is the body of the first
abbrev pub parts_of : List ℕ → Parts → SpaceAndType
parts_of b p = record { space = space_of b p.dimensions.rank p.dimensions.maxima_stored; type = type_of p.datatype }

-- the answer as the end of that walk
abbrev pub parts_result : List ℕ → Result Parts Refusal → Walk SpaceAndType
parts_result b (Ok p) = ret (parts_of b p)
parts_result b (Err r) = refuse r

-- the sizes and maxima of the dataspace stand in the body b of its message
abbrev pub PartsShaped : List ℕ → Result Parts Refusal → Type 0
PartsShaped b (Ok p) = SpaceInside b (Ok p.dimensions)
PartsShaped b (Err r) = Unit {0}

-- dataspace and layout lie in the image, and the dataspace's sizes and maxima in its body
pub record StorageInside (im : List ℕ) (space : Body) (p : Parts) (layout : Body) : Type 0 where
  pub space_inside : Inside im space
  pub layout_inside : Inside im layout
  pub shaped : SpaceInside (body_of im space) (Ok p.dimensions)

-- the storage walk before its data's block
unfoldable pub layout_walk : Dataspace → Rattle.format.specs.Datatype.Datatype → Message → Walk Rattle.format.specs.Dataset.Dataset
layout_walk d t layout = do
  l ← located (head_at layout) (read_layout layout.place layout.body)
  check (fills d t l) (fault 11 (head_at layout))
  ret (record { space = d; type = t; layout = l })

-- where the storage walk begins: behind the parts
abbrev pub storage_of : List ℕ → Body → Parts → Body → Walk Rattle.format.specs.Dataset.Dataset
storage_of im space p layout =
    let v = parts_of (body_of im space) p in
    storage_walk v.space v.type (message_of im 0x0008 layout)

-- the sizes and maxima of a dataset stand in the body b of its dataspace message
abbrev pub Shaped : List ℕ → Dataset → Type 0
Shaped b d = SpaceInside b (Ok d.dimensions)

abbrev pub DatasetShaped : List ℕ → Result Dataset Refusal → Type 0
DatasetShaped b (Ok d) = Shaped b d
DatasetShaped b (Err r) = Unit {0}

-- the messages' answer as the end of their walk
abbrev pub messages_read : List ℕ → Result Dataset Refusal → Walk Rattle.format.specs.Dataset.Dataset
messages_read b (Ok d) = ret (dataset_of b d)
messages_read b (Err r) = refuse r

-- how the dataset walk ended, with so many blocks
abbrev pub dataset_end : List ℕ → ℕ → Result Dataset Refusal → Ended Rattle.format.specs.Dataset.Dataset
dataset_end b count (Ok d) = ended (dataset_of b d) count
dataset_end b count (Err r) = stopped r
