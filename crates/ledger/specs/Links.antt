-- What a ledger records: its addresses, the links to each and to all, and that no address stands in it twice.
use Rattle.std.specs.Prelude.{ℕ, ◌+◌, false, List, [], ◌∷◌, ◌≡◌, eqb, if◌then◌else◌}
use Rattle.format.specs.Ledger.{Linked, in_ledger}

-- the addresses, in order of discovery
unfoldable pub addresses_of : List Linked → List ℕ
addresses_of [] = []
addresses_of (o ∷ os) = o.address ∷ addresses_of os

-- all links recorded
unfoldable pub link_sum : List Linked → ℕ
link_sum [] = 0
link_sum (o ∷ os) = o.links + link_sum os

-- the links recorded for an address, 0 for one that isn't in the ledger
unfoldable pub links_to : ℕ → List Linked → ℕ
links_to x [] = 0
links_to x (o ∷ os) = if eqb x o.address then o.links else links_to x os

-- a link to a as it counts for x: one for its own address, none for another
abbrev pub one_for : ℕ → ℕ → ℕ
one_for x a = if eqb x a then 1 else 0

-- no address stands twice
abbrev pub Distinct : List Linked → Type 0
Distinct [] = Unit {0}
Distinct (o ∷ os) = (in_ledger o.address os ≡ false) × Distinct os
