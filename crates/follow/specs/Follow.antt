-- Where the components of a path lead.
use Rattle.std.specs.Prelude.{ℕ, List, [], ◌∷◌, length, drop, leb, if◌then◌else◌}
use Rattle.format.specs.Bytes.{is_empty}
use Rattle.format.specs.Walk.{Outcome, done, run, and_then}
use Rattle.format.specs.Superblock.{Superblock}
use Rattle.format.specs.Path.{path_parts}
use Rattle.format.specs.Lookup.{Target, object, symbolic, component_walk, from_target}

-- the components from the object at the address at on, each looked up on a list of its own: where the last one leads, or the first refusal
unfoldable pub target_run : List ℕ → Superblock → ℕ → List (List ℕ) → ℕ → Outcome Target
target_run im s room [] at = done (object at) []
target_run im s room (p ∷ ps) at =
    and_then (run im s.end_of_file room (component_walk s p (is_empty ps) at) []) (λ t bs. from_target t (λ a. target_run im s room ps a) (done symbolic []))

-- the components of a path from a place on; none behind its end
unfoldable pub rest_of : List ℕ → ℕ → List (List ℕ)
rest_of path start = if leb start (length path) then path_parts (drop start path) else []
