-- The entries of a group, what the audit makes of them and what a lookup makes of them.
use Rattle.std.specs.Prelude.{ℕ, Bool, true, false, List, [], ◌∷◌, ◌++◌, ◌≡◌, if◌then◌else◌}
use Rattle.format.specs.Bytes.{same_bytes}
use Rattle.format.specs.Result.{Result, value, ◌>>=◌}
use Rattle.format.specs.Walk.{Walk}
use Rattle.format.specs.Names.{below}
use Rattle.format.specs.Entry.{Entry, is_hard}
use Rattle.format.specs.Tree.{group_walk}
use Rattle.format.specs.Ledger.{Linked, discover}
use Rattle.format.specs.Lookup.{Link, hard, soft, compare_name}

-- a visit that keeps the entries, in the order in which they are met
unfoldable pub keep_entry : Entry → List Entry → Result (List Entry)
keep_entry e es = value (es ++ (e ∷ []))

unfoldable pub entries_walk : (leaf_k internal_k tree heap : ℕ) → Walk (List Entry)
entries_walk leaf_k internal_k tree heap = group_walk leaf_k internal_k tree heap keep_entry []

-- the hard links of entries, counted one after the other
unfoldable pub count_entries : List Entry → List Linked → Result (List Linked)
count_entries [] os = value os
count_entries (e ∷ es) os = discover e os >>= count_entries es

-- what an entry is to a lookup that finds it
abbrev pub link_to : Entry → Link
link_to e = if is_hard e then hard e.header else soft

-- what a lookup remembers after entries
unfoldable pub remembered : List ℕ → List Entry → Link → Link
remembered name [] l = l
remembered name (e ∷ es) l = remembered name es (if same_bytes e.name name then link_to e else l)

-- every entry's name is above this one
unfoldable pub AllAbove : List ℕ → List Entry → Type 0
AllAbove n [] = Unit {0}
AllAbove n (e ∷ es) = (below n e.name ≡ true) × AllAbove n es

-- every entry's name is below this one
unfoldable pub AllBelow : List Entry → List ℕ → Type 0
AllBelow [] n = Unit {0}
AllBelow (e ∷ es) n = (below e.name n ≡ true) × AllBelow es n

-- names rise strictly
unfoldable pub Rising : List Entry → Type 0
Rising [] = Unit {0}
Rising (e ∷ es) = AllAbove e.name es × Rising es

-- no entry has this name
unfoldable pub NoneNamed : List ℕ → List Entry → Type 0
NoneNamed name [] = Unit {0}
NoneNamed name (e ∷ es) = (same_bytes e.name name ≡ false) × NoneNamed name es

-- what both uses find: the audit's ledger, and what a lookup knows of its name
pub record Both : Type 0 where
  pub ledger : List Linked
  pub link : Link

-- the audit discovers and a lookup compares; each leaves the other's part as it is
unfoldable pub visit_both : Bool → List ℕ → Entry → Both → Result Both
visit_both true wanted e b = discover e b.ledger >>= λ os. value (record { ledger = os; link = b.link })
visit_both false wanted e b = compare_name wanted e b.link >>= λ l. value (record { ledger = b.ledger; link = l })
