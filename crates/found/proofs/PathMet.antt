-- The block met, of a lookup or a description that is refused.
use Prim.Native.Nat.{ℕ}
use mathlib.Core.List.{List, []}
use mathlib.Core.Logic.{⊎_elim}
use mathlib.Core.Path.{◌≡◌}
use native.Mathlib.Omega.{arith}
use Rattle.format.specs.Bytes.{is_empty}
use Rattle.format.specs.Blocks.{Block, room_of}
use Rattle.format.specs.declared.Refusal.{Refusal}
use Rattle.format.specs.Walk.{Walk, fault, no_place, ◌>>◌}
use Rattle.format.specs.Superblock.{Superblock, superblock_walk}
use Rattle.format.specs.Lookup.{component_walk, locate_walk}
use Rattle.format.specs.Describe.{describe_walk}
use Rattle.links.specs.FirstMet.{GivesMet}
use Rattle.links.proofs.Numbered.{Numbered}
use Rattle.links.proofs.FirstMet.{NotSix, fault-met}
use Rattle.links.proofs.AuditMet.{none-met, unopened-met}
use Rattle.found.specs.PathFault.{PathFault, malformed, unopened, at_component, at_last, LookupFault, DescribeFault}
use Rattle.found.proofs.NumberedLookup.{locate-numbered, describe-numbered, component-numbered}

component-not-six : (s : Superblock) (name : List ℕ) (after : List (List ℕ)) (at : ℕ) → Numbered NotSix (component_walk s name (is_empty after) at)
component-not-six s name after at =
    component-numbered NotSix (λ e. omega arith) (λ e. omega arith) (λ e. omega arith) (λ e. omega arith) (λ e. omega arith) (λ e. omega arith)
    (λ e. omega arith) (λ e. omega arith) (λ e. omega arith) s name (is_empty after) at

module _ (im path : List ℕ) (lent : ℕ) where
  -- the walk of the last object has numbers other than 6
  path-met : {A : Type 0} (last : ℕ → Walk A) → ((s : Superblock) (at : ℕ) → Numbered NotSix (superblock_walk s >> last at)) →
      {r : Refusal} {bs : List Block} → PathFault im path lent last r bs → GivesMet r bs
  path-met last lasts (malformed p) = none-met 14 no_place [] (λ e. omega arith)
  path-met last lasts (unopened {n = n} p o) = unopened-met im n o
  path-met last lasts (at_component before next after {s = s} {at = at} q l f) =
      fault-met im s.end_of_file (room_of lent) (component-not-six s next after at) f
  path-met last lasts (at_last {s = s} {at = at} q l f) = fault-met im s.end_of_file (room_of lent) (lasts s at) f

  pub lookup-met : (r : Refusal) (bs : List Block) → LookupFault im path lent r bs → GivesMet r bs
  lookup-met r bs f = path-met locate_walk (locate-numbered NotSix (λ e. omega arith) (λ e. omega arith) (λ e. omega arith)) f

  pub describe-met : (r : Refusal) (bs : List Block) → DescribeFault im path lent r bs → GivesMet r bs
  describe-met r bs =
      ⊎_elim
      (path-met describe_walk
      (describe-numbered NotSix (λ e. omega arith) (λ e. omega arith) (λ e. omega arith) (λ e. omega arith) (λ e. omega arith)))
      (λ h.
      let none = none-met 20 no_place [] (λ e. omega arith) in
      let same : r ≡ fault 20 no_place = h.1 in
      let blocks : bs ≡ [] = h.2 in
      rw (same, blocks) none)
