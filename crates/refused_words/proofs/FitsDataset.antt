-- A dataset whose messages have bodies of bytes: the address that its datatype shares, and its data's block.
use Prim.Native.Nat.{ℕ, ◌+◌}
use mathlib.Core.List.{List}
use mathlib.Core.Path.{◌≡◌}
use native.Mathlib.Omega.{arith}
use borrow.Author.Tests.{eqb-true}
use Rattle.format.specs.Bytes.{u16, u64}
use Rattle.format.specs.Walk.{data_block}
use Rattle.format.specs.Message.{Message, is_shared}
use Rattle.format.specs.Dataspace.{Dataspace, read_dataspace}
use Rattle.format.specs.Datatype.{Datatype, shared_at, read_datatype, read_shared}
use Rattle.format.specs.Layout.{Layout, read_compact, read_contiguous, read_layout}
use Rattle.format.specs.Dataset.{fills, has_data_block, data_walk, head_at, read_type, storage_walk}
use Rattle.format.specs.Sharing.{Found, share_each, shared_by}
use Rattle.format.specs.Object.{sharing_dataset}
use Rattle.walk.proofs.Tests.{all_held}
use Rattle.links.proofs.Gives.{Gives, Whatever, gives-value, gives-check, gives-if, gives-whatever}
use Rattle.demand.specs.Bytes.{IsBytes}
use Rattle.refused_words.specs.Words.{IsWord}
use Rattle.refused_words.proofs.ReadWords.{u64-word}
use Rattle.refused_words.proofs.Fits.{Fits, fits-bind, fits-ret, fits-block, fits-check, fits-if, fits-located}
use Rattle.refused_words.proofs.LedgerWords.{Words, FoundFits, shares-give}

abbrev TypeFits : Datatype → Type 0
TypeFits t = Words (shared_by t)

own-gives : (b : List ℕ) → Gives TypeFits (read_datatype b)
unfolding read_datatype
own-gives b = search (gives-check, gives-value, tt) depth 20

shared-gives : (b : List ℕ) → IsBytes b → Gives TypeFits (read_shared b)
unfolding read_shared
shared-gives b i = let one : TypeFits (shared_at (u64 b 2)) = (u64-word b 2 i, tt) in search (gives-check, gives-value) depth 8

type-gives : (m : Message) → IsBytes m.body → Gives TypeFits (read_type m)
unfolding read_type
type-gives m i = gives-if _ (is_shared m.flags) _ _ (shared-gives m.body i) (own-gives m.body)

-- contiguous data, which alone has a block
abbrev LayoutFits : Layout → Type 0
LayoutFits l = l.class ≡ 1 → IsWord l.address × IsWord l.size

compact-gives : (place : ℕ) (b : List ℕ) → Gives LayoutFits (read_compact place b)
unfolding read_compact
compact-gives place b =
    let no_block : LayoutFits (record { class = 0; address = place + 4; size = u16 b 2 }) = λ e. absurd (omega (arith, e)) in
    search (gives-check, gives-value)

contiguous-gives : (b : List ℕ) → IsBytes b → Gives LayoutFits (read_contiguous b)
unfolding read_contiguous
contiguous-gives b i =
    let block : LayoutFits (record { class = 1; address = u64 b 2; size = u64 b 10 }) = λ _. (u64-word b 2 i, u64-word b 10 i) in
    search (gives-check, gives-value)

layout-gives : (place : ℕ) (b : List ℕ) → IsBytes b → Gives LayoutFits (read_layout place b)
unfolding read_layout
layout-gives place b i =
    let compact = compact-gives place b in
    let contiguous = contiguous-gives b i in
    search (gives-check, gives-if) depth 8

data-fits : (l : Layout) → LayoutFits l → Fits Whatever (data_walk l)
unfolding data_walk
data-fits l h =
    fits-if _ (has_data_block l) _ _
    (λ e.
    let w = h (eqb-true l.class 1 (all_held _ _ e).0) in
    fits-block _ data_block l.address l.size _ w.0 w.1 (λ b _. fits-ret _ tt tt))
    (fits-ret _ tt tt)

storage-fits : (d : Dataspace) (t : Datatype) (layout : Message) → IsBytes layout.body → Fits Whatever (storage_walk d t layout)
unfolding storage_walk
storage-fits d t layout i =
    fits-located _ LayoutFits (head_at layout) (read_layout layout.place layout.body) _ (layout-gives layout.place layout.body i) λ l h.
    fits-check _ (fills d t l) 11 (head_at layout) _
    (fits-bind Whatever _ _ _ (data-fits l h) λ _ _.
    fits-ret _ _ tt)

pub dataset-fits : (space type layout : Message) (f : Found) → IsBytes type.body → IsBytes layout.body → FoundFits f →
    Fits FoundFits (sharing_dataset space type layout f)
unfolding sharing_dataset
dataset-fits space type layout f i j h =
    fits-located _ Whatever (head_at space) (read_dataspace space.body) _ (gives-whatever _) λ d _.
    fits-located _ TypeFits (head_at type) (read_type type) _ (type-gives type i) λ t w.
    fits-located _ FoundFits (head_at type) (share_each (shared_by t) f) _ (shares-give (shared_by t) f w h) λ g p.
    fits-bind Whatever _ _ _ (storage-fits d t layout j) λ _ _.
    fits-ret FoundFits g p
