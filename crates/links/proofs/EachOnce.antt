-- The objects are exactly the addresses reached from the root by hard links and sharings, each once. Here: each once.
use Prim.Native.Nat.{ℕ}
use mathlib.Core.List.{List, [], ◌∷◌}
use mathlib.Core.Path.{◌≡◌}
use Rattle.format.specs.Result.{value}
use Rattle.format.specs.Ledger.{Linked, linked}
use Rattle.ledger.specs.Links.{Distinct}
use Rattle.ledger.proofs.LedgerLaws.{count-distinct, distinct-first}
use Rattle.links.specs.Reached.{Reference}
use Rattle.links.specs.Trace.{count_references}
use Rattle.links.proofs.Counting.{counting-keeps}

pub each-once : (root : ℕ) (rs : List Reference) (os : List Linked) → count_references rs (linked root 1 ∷ []) ≡ value os → Distinct os
each-once root rs os c = counting-keeps Distinct count-distinct rs _ os c (distinct-first root)
