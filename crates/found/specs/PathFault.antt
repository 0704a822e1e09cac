-- Why a lookup or a description is refused: one cause, "first fault met", in the order "14, then 1, 2, 3, 4 for the superblock, then the walk".
use Rattle.std.specs.Prelude.{ℕ, List, [], ◌∷◌, ◌++◌, ◌⊎◌, ◌≡◌}
use Rattle.format.specs.Bytes.{is_empty}
use Rattle.format.specs.Blocks.{Block, room_of}
use Rattle.format.specs.declared.Refusal.{Refusal}
use Rattle.format.specs.Walk.{Walk, fault, no_place, ◌>>◌}
use Rattle.format.specs.Superblock.{Superblock, not_opened, open_image, superblock_walk}
use Rattle.format.specs.Path.{components, bad_path, parse_path}
use Rattle.format.specs.Lookup.{object, symbolic, component_walk, locate_walk}
use Rattle.format.specs.Describe.{describe_walk}
use Rattle.links.specs.Fault.{Fault}
use Rattle.found.specs.Leads.{Leads}
use Rattle.found.specs.Found.{Asked}

-- PathFault last r bs: following the path, and then the walk `last` of the object that it leads to, stops with the refusal r, having entered bs on the list
-- that was begun last.
pub data PathFault (im path : List ℕ) (lent : ℕ) {A : Type 0} (last : ℕ → Walk A) : Refusal → List Block → Type 0 where
  -- the path is malformed: 14
  malformed : parse_path path ≡ bad_path → PathFault im path lent last (fault 14 no_place) []
  -- the image isn't opened: 1, 2, 3, 4
  unopened : {ps : List (List ℕ)} {n : ℕ} → parse_path path ≡ components ps → open_image im ≡ not_opened n → PathFault im path lent last (fault n 0) []
  -- components lead to an object, in which the walk of the next comes to a fault: in its header or its index, or with 15, 16 or 17
  at_component : (before : List (List ℕ)) (next : List ℕ) (after : List (List ℕ)) {s : Superblock} {at : ℕ} {r : Refusal} {bs : List Block} →
      Asked im path (before ++ (next ∷ after)) s → Leads im s (room_of lent) s.root before (object at) →
      Fault im s.end_of_file (room_of lent) (component_walk s next (is_empty after) at) [] r bs → PathFault im path lent last r bs
  -- all components lead to an object, whose own walk comes to a fault
  at_last : {ps : List (List ℕ)} {s : Superblock} {at : ℕ} {r : Refusal} {bs : List Block} →
      Asked im path ps s → Leads im s (room_of lent) s.root ps (object at) →
      Fault im s.end_of_file (room_of lent) (superblock_walk s >> last at) [] r bs → PathFault im path lent last r bs

abbrev pub LookupFault : List ℕ → List ℕ → ℕ → Refusal → List Block → Type 0
LookupFault im path lent r bs = PathFault im path lent locate_walk r bs

-- the path leads to a symbolic link
abbrev pub AtSymbolic : List ℕ → List ℕ → ℕ → Type 0
AtSymbolic im path lent = (ps : List (List ℕ)) × (s : Superblock) × Asked im path ps s × Leads im s (room_of lent) s.root ps symbolic

-- of a description also a path that leads to a symbolic link: "20 unless kind 2"
abbrev pub DescribeFault : List ℕ → List ℕ → ℕ → Refusal → List Block → Type 0
DescribeFault im path lent r bs = PathFault im path lent describe_walk r bs ⊎ (AtSymbolic im path lent × (r ≡ fault 20 no_place) × (bs ≡ []))
