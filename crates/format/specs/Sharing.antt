-- Sharings: "The library also counts each datatype message that shares it and each attribute whose flags say so."
use Rattle.std.specs.Prelude.{ℕ, suc, List, [], ◌∷◌, not, get_or, set, eqb, if◌then◌else◌}
use Rattle.format.specs.Result.{Result, value, check, ◌>>=◌, ◌>>◌}
use Rattle.format.specs.Message.{Message}
use Rattle.format.specs.Header.{Object, group, dataset, committed}
use Rattle.format.specs.Datatype.{Datatype, own, shared_at}
use Rattle.format.specs.Attribute.{read_attribute}
use Rattle.format.specs.Ledger.{Linked, count_link}

-- what the audit has found: the objects, and of each, in the same order, what is known of it
pub record Found : Type 0 where
  pub objects : List Linked
  pub marks : List ℕ

-- a mark other than 0: a sharing gave the address; the kind is known and isn't a committed datatype
abbrev pub shared_mark : ℕ
shared_mark = 1

abbrev pub other_mark : ℕ
other_mark = 2

-- the number of the first object with this address, from 0 on
unfoldable pub place_of : ℕ → List Linked → ℕ
place_of a [] = 0
place_of a (o ∷ os) = let rest = suc (place_of a os) in if eqb a o.address then 0 else rest

-- A sharing of the address: "A shared address is discovered as an object .. If that object isn't a committed datatype, answer 10 once both are
-- known": here, if its kind is known already
unfoldable pub share : ℕ → Found → Result Found
share a f = do
  os ← count_link a f.objects
  check (not (eqb (get_or f.marks (place_of a os) 0) other_mark)) 10
  value (record { objects = os; marks = set f.marks (place_of a os) shared_mark })

-- sharings one after the other
unfoldable pub share_each : List ℕ → Found → Result Found
share_each [] f = value f
share_each (a ∷ rest) f = share a f >>= share_each rest

-- what the audit does at a message: an attribute's sharing is discovered "with its header's messages"
unfoldable pub discover_sharing : Message → Found → Result Found
discover_sharing m f = if eqb m.type 0x000c then read_attribute m.body >>= (λ addresses. share_each addresses f) else value f

-- the addresses that a dataset's datatype message shares: one or none
abbrev pub shared_by : Datatype → List ℕ
shared_by (own class version bits size) = []
shared_by (shared_at address) = address ∷ []

-- the kind of the i-th object is known: 10 if it was shared and is no committed datatype
unfoldable pub not_committed : ℕ → Found → Result Found
not_committed i f = do
  check (not (eqb (get_or f.marks i 0) shared_mark)) 10
  value (record { objects = f.objects; marks = set f.marks i other_mark })

abbrev pub known : ℕ → Object → Found → Result Found
known i (group tree heap) f = not_committed i f
known i (dataset space type layout) f = not_committed i f
known i committed f = value f
