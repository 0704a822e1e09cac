-- "take objects in order of discovery, root first .. A hard link to a new address adds an object. An object is walked once." "A shared address is
-- discovered as an object".
use Rattle.std.specs.Prelude.{ℕ, ◌+◌, List, [], ◌∷◌, ◌≡◌, drop}
use Rattle.format.specs.Result.{Result, value, ◌>>=◌}
use Rattle.format.specs.Ledger.{Linked, count_link}
use Rattle.links.specs.Reached.{Reference, target}

-- references counted one after the other
unfoldable pub count_references : List Reference → List Linked → Result (List Linked)
count_references [] os = value os
count_references (r ∷ rs) os = count_link (target r) os >>= count_references rs

-- From the ledger os to the last one, by the objects from the i-th on: the i-th object has references rs, with which P holds of it; the ledger with
-- these counted is ps; then it is the turn of the next object, until there is none.
pub data Trace (P : ℕ → List Reference → Type 0) : ℕ → List Linked → List Linked → Type 0 where
  ended : {i : ℕ} {os : List Linked} → drop i os ≡ [] → Trace P i os os
  next : {i : ℕ} {o : Linked} {rest os ps os' : List Linked} {rs : List Reference} →
      drop i os ≡ o ∷ rest → P o.address rs → count_references rs os ≡ value ps → Trace P (i + 1) ps os' → Trace P i os os'
