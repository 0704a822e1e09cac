-- Discoveries and sharings keep the ledger's addresses of 64 bits.
use Prim.Native.Nat.{ℕ, zero, suc, ◌+◌}
use mathlib.Core.Bool.{Bool, true, false}
use mathlib.Core.List.{List, [], ◌∷◌, ◌++◌}
use lib.Dec.{eqb, ltb}
use lib.ListN.{length, drop}
use Rattle.format.specs.Limits.{objects_most}
use Rattle.std.specs.Prelude.{if◌then◌else◌}
use Rattle.format.specs.Bytes.{part, u8, u16, u64}
use Rattle.format.specs.Message.{Message}
use Rattle.format.specs.Header.{Object, group, dataset, committed}
use Rattle.format.specs.Attribute.{taken, name_start, read_shared_part, read_attribute}
use Rattle.format.specs.Entry.{Entry, is_hard}
use Rattle.format.specs.Ledger.{Linked, linked, in_ledger, add_link, count_link, discover}
use Rattle.format.specs.Sharing.{Found, share, share_each, discover_sharing, not_committed, known}
use Rattle.links.proofs.Gives.{Gives, gives-value, gives-answer, gives-check, gives-if, gives-bind}
use Rattle.demand.specs.Bytes.{IsBytes}
use Rattle.demand.proofs.BytesBack.{part_bytes}
use Rattle.refused_words.specs.Words.{IsWord}
use Rattle.refused_words.proofs.ReadWords.{u64-word}

-- all addresses are of 64 bits: of a list, and of the objects found
abbrev pub Words : List ℕ → Type 0
Words [] = Unit {0}
Words (a ∷ rest) = IsWord a × Words rest

abbrev pub Addresses : List Linked → Type 0
Addresses [] = Unit {0}
Addresses (o ∷ os) = IsWord o.address × Addresses os

abbrev pub FoundFits : Found → Type 0
FoundFits f = Addresses f.objects

addresses-append : (os ps : List Linked) → Addresses os → Addresses ps → Addresses (os ++ ps)
addresses-append [] ps h k = k
addresses-append (o ∷ os) ps h k = (h.0, addresses-append os ps h.1 k)

pub drop-addresses : (i : ℕ) (os : List Linked) → Addresses os → Addresses (drop i os)
drop-addresses zero os q = q
drop-addresses (suc i) [] q = tt
drop-addresses (suc i) (o ∷ os) q = drop-addresses i os q.1

add_words : (a : ℕ) (os : List Linked) → IsWord a → Addresses os → Addresses (add_link a os)
unfolding add_link
add_words a [] w h = tt
add_words a (o ∷ os) w h = go (eqb a o.address) (add_words a os w h.1)
  where
    go : (t : Bool) → Addresses (add_link a os) → Addresses (if t then linked a (o.links + 1) ∷ os else o ∷ add_link a os)
    go true rest = (w, h.1)
    go false rest = (h.0, rest)

count_gives : (a : ℕ) (os : List Linked) → IsWord a → Addresses os → Gives Addresses (count_link a os)
unfolding count_link
count_gives a os w h =
    gives-if _ (in_ledger a os) _ _ (gives-value Addresses _ (add_words a os w h))
    (gives-if _ (ltb (length os) objects_most) _ _ (gives-value Addresses _ (addresses-append os (linked a 1 ∷ []) h (w, tt))) (gives-answer _ 12))

pub discover-gives : (e : Entry) (os : List Linked) → IsWord e.header → Addresses os → Gives Addresses (discover e os)
unfolding discover
discover-gives e os w h = gives-if _ (is_hard e) _ _ (count_gives e.header os w h) (gives-value Addresses os h)

share-gives : (a : ℕ) (f : Found) → IsWord a → FoundFits f → Gives FoundFits (share a f)
unfolding share
share-gives a f w h =
    gives-bind _ Addresses (count_link a f.objects) _ (count_gives a f.objects w h) λ os p.
    search (gives-check, gives-value)

pub shares-give : (addresses : List ℕ) (f : Found) → Words addresses → FoundFits f → Gives FoundFits (share_each addresses f)
unfolding share_each
shares-give [] f w h = gives-value FoundFits f h
shares-give (a ∷ rest) f w h = gives-bind _ FoundFits (share a f) _ (share-gives a f w.0 h) λ g p. shares-give rest g w.1 p

part_gives : (p : List ℕ) → IsBytes p → Gives Words (read_shared_part p)
unfolding read_shared_part
part_gives p i = let one : Words (u64 p 2 ∷ []) = (u64-word p 2 i, tt) in search (gives-check, gives-value)

attribute-gives : (b : List ℕ) → IsBytes b → Gives Words (read_attribute b)
unfolding read_attribute
attribute-gives b i =
    let start = name_start (u8 b 0) + taken (u8 b 0) (u16 b 2) in
    let shared = part_gives (part b start (u16 b 4)) (part_bytes b start (u16 b 4) i) in
    search (gives-check, gives-if, gives-value, tt) depth 12

pub sharing-gives : (m : Message) (f : Found) → IsBytes m.body → FoundFits f → Gives FoundFits (discover_sharing m f)
unfolding discover_sharing
sharing-gives m f i h =
    gives-if _ (eqb m.type 0x000c) _ _
    (gives-bind _ Words (read_attribute m.body) _ (attribute-gives m.body i) λ addresses w. shares-give addresses f w h) (gives-value FoundFits f h)

other-gives : (i : ℕ) (f : Found) → FoundFits f → Gives FoundFits (not_committed i f)
unfolding not_committed
other-gives i f h = search (gives-check, gives-value)

pub known-gives : (i : ℕ) (o : Object) (f : Found) → FoundFits f → Gives FoundFits (known i o f)
known-gives i (group tree heap) f h = other-gives i f h
known-gives i (dataset space type layout) f h = other-gives i f h
known-gives i committed f h = gives-value FoundFits f h
