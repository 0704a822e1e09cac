-- All that a lookup or a description is shown of the image behind its superblock's fields: in the walks of its components and in the last. "Each component
-- starts a fresh block list (superblock first) ..; the last object's header is then read on a fresh list."
use Rattle.std.specs.Prelude.{ℕ, List, [], ◌∷◌, ◌++◌}
use Rattle.format.specs.Bytes.{is_empty}
use Rattle.format.specs.Blocks.{room_of}
use Rattle.format.specs.Walk.{Walk, Outcome, done, refused, run, ◌>>◌}
use Rattle.format.specs.Superblock.{Superblock, Opening, opened, not_opened, open_image, superblock_walk}
use Rattle.format.specs.Path.{Parsed, components, bad_path, parse_path}
use Rattle.format.specs.Lookup.{Target, object, symbolic, component_walk, locate_walk}
use Rattle.format.specs.Describe.{describe_walk}
use Rattle.laws.specs.Shown.{Shown, shown_by}

-- what is shown from the object on that a component led to; nothing where it led to none
abbrev pub shown_from : Outcome Target → (ℕ → List Shown) → List Shown
shown_from (done (object a) bs) f = f a
shown_from (done symbolic bs) f = []
shown_from (refused r bs) f = []

-- the components from the object at this address on, then the walk `last` of the object found
unfoldable pub follow_shown : {A : Type 0} → List ℕ → Superblock → ℕ → (ℕ → Walk A) → List (List ℕ) → ℕ → List Shown
follow_shown im s room last [] at = shown_by im s.end_of_file room (superblock_walk s >> last at) []
follow_shown im s room last (p ∷ ps) at =
    let w = component_walk s p (is_empty ps) at in
    shown_by im s.end_of_file room w [] ++ shown_from (run im s.end_of_file room w []) (λ a. follow_shown im s room last ps a)

-- nothing is walked where the image isn't opened
abbrev pub shown_opened : Opening → (Superblock → List Shown) → List Shown
shown_opened (opened s) f = f s
shown_opened (not_opened n) f = []

abbrev pub path_shown : {A : Type 0} → List ℕ → Parsed → ℕ → (ℕ → Walk A) → List Shown
path_shown im (components ps) lent last = shown_opened (open_image im) (λ s. follow_shown im s (room_of lent) last ps s.root)
path_shown im bad_path lent last = []

abbrev pub lookup_shown : List ℕ → List ℕ → ℕ → List Shown
lookup_shown im path lent = path_shown im (parse_path path) lent locate_walk

abbrev pub describe_shown : List ℕ → List ℕ → ℕ → List Shown
describe_shown im path lent = path_shown im (parse_path path) lent describe_walk
