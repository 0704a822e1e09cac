-- What an audit that is done has found.
use Rattle.std.specs.Prelude.{ℕ, ◌+◌, ◌≤◌, ◌<◌, true, ◌≡◌, length, get_or}
use mathlib.Core.List.{List, [], ◌∷◌, flatten, Memᴰ}
use Rattle.format.specs.Result.{value}
use Rattle.format.specs.Superblock.{Superblock}
use Rattle.format.specs.Ledger.{Linked, linked, in_ledger}
use Rattle.ledger.specs.Links.{addresses_of, link_sum, links_to, one_for, Distinct}
use Rattle.links.specs.Reached.{Reference, sharing, HasReferences, ReferencesOfAll, hard_links, sharings, all_hard_links, all_sharings, Reached, IsCommitted}
use Rattle.links.specs.Trace.{count_references, Trace}

-- the ledger os of an audit of the image im with the superblock s
pub record Sound (im : List ℕ) (s : Superblock) (os : List Linked) : Type 0 where
  -- the objects stand in order of discovery, root first
  pub trace : Trace (HasReferences im s) 0 (linked s.root 1 ∷ []) os
  -- the references of each object, in the order of the objects
  pub references : List (List Reference)
  pub read : ReferencesOfAll im s (addresses_of os) references
  -- the ledger is the root's, with all references counted
  pub counted : count_references (flatten references) (linked s.root 1 ∷ []) ≡ value os
  -- "true count is now hard links plus such sharings", and one more for the root
  pub true_count : (o : Linked) → Memᴰ o os →
      o.links ≡ one_for o.address s.root + hard_links o.address (flatten references) + sharings o.address (flatten references)
  pub counts : (x : ℕ) → links_to x os ≡ one_for x s.root + hard_links x (flatten references) + sharings x (flatten references)
  -- "All true counts now sum to one plus links plus sharings"
  pub sum : link_sum os ≡ 1 + all_hard_links (flatten references) + all_sharings (flatten references)
  -- the objects are exactly the addresses reached from the root by hard links and sharings, each once
  pub once : Distinct os
  pub reached : (x : ℕ) → in_ledger x os ≡ true → Reached im s x
  pub found : (x : ℕ) → Reached im s x → in_ledger x os ≡ true
  -- "If that object isn't a committed datatype, answer 10 once both are known": so what is shared is a committed datatype
  pub shared : (x : ℕ) → Memᴰ (sharing x) (flatten references) → IsCommitted im s x
  -- each object's header lies inside the end of file with its first 16 bytes
  pub headers : (k : ℕ) → k < length os → get_or (addresses_of os) k 0 + 16 ≤ s.end_of_file
