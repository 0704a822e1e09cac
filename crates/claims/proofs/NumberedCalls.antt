-- The runs of lookup and description are refused with certain numbers only, whatever the image and the path. The audit's are in `links`.
use Prim.Native.Nat.{ℕ}
use mathlib.Core.List.{List, [], ◌∷◌}
use mathlib.Core.Path.{refl}
use Rattle.format.specs.Bytes.{is_empty, contains}
use Rattle.format.specs.Blocks.{room_of}
use Rattle.format.specs.Walk.{Walk, Outcome, run, ◌>>◌}
use Rattle.format.specs.Superblock.{Superblock, superblock_walk}
use Rattle.format.specs.Path.{Parsed, components, bad_path, parse_path}
use Rattle.format.specs.Lookup.{Target, object, symbolic, component_walk, from_target, follow, follow_path, locate_walk, lookup_run}
use Rattle.format.specs.Describe.{describe_walk, describe_run}
use Rattle.links.proofs.Includes.{Includes, includes-all}
use Rattle.links.proofs.Numbered.{Numbered, Only, only_then, run_only}
use Rattle.links.proofs.AuditAnswers.{opening_refusals, opened-only}
use Rattle.found.proofs.NumberedLookup.{locate-numbered, describe-numbered, component-numbered}

-- the numbers with which a lookup is refused: 1 to 4 at the opening, 5, 6, 13 at a block's entry, 3, 10 in a header, 7, 8, 9 in a group, 14 for the path's
-- form, 15, 16, 17 at a component
abbrev pub lookup_refusals : List ℕ
lookup_refusals = 1 ∷ 2 ∷ 3 ∷ 4 ∷ 5 ∷ 6 ∷ 7 ∷ 8 ∷ 9 ∷ 10 ∷ 13 ∷ 14 ∷ 15 ∷ 16 ∷ 17 ∷ []

module _ (N : ℕ → Type 0) (has : Includes N lookup_refusals) where
  -- the walk of the last object, and the end at a symbolic link
  module _ {A : Type 0} (last : ℕ → Walk A) (x : Outcome A) (lasts : (s : Superblock) (at : ℕ) → Numbered N (superblock_walk s >> last at))
      (final : Only N x) where
    walk-only : (im : List ℕ) (eof room : ℕ) {B : Type 0} (w : Walk B) → Numbered N w → Only N (run im eof room w [])
    unfolding contains
    walk-only im eof room w h = run_only N (has 5 refl) (has 6 refl) (has 13 refl) im eof room w [] h

    component-only : (im : List ℕ) (s : Superblock) (room : ℕ) (p : List ℕ) (ps : List (List ℕ)) (at : ℕ) →
        Only N (run im s.end_of_file room (component_walk s p (is_empty ps) at) [])
    unfolding contains
    component-only im s room p ps at =
        walk-only im s.end_of_file room (component_walk s p (is_empty ps) at)
        (component-numbered N (has 3 refl) (has 10 refl) (has 13 refl) (has 7 refl) (has 8 refl) (has 9 refl) (has 17 refl) (has 15 refl) (has 16 refl) s p
        (is_empty ps) at)

    follow-only : (im : List ℕ) (s : Superblock) (room : ℕ) (ps : List (List ℕ)) (at : ℕ) → Only N (follow im s room last x ps at)
    unfolding follow
    follow-only im s room [] at = walk-only im s.end_of_file room (superblock_walk s >> last at) (lasts s at)
    follow-only im s room (p ∷ ps) at =
        only_then N (run im s.end_of_file room (component_walk s p (is_empty ps) at) []) _ (component-only im s room p ps at)
        (λ t bs. go t (follow-only im s room ps))
      where
        go : (t : Target) → ((a : ℕ) → Only N (follow im s room last x ps a)) → Only N (from_target t (λ a. follow im s room last x ps a) x)
        go (object a) rest = rest a
        go symbolic rest = final

    path-only : (im path : List ℕ) (lent : ℕ) → Only N (follow_path im (parse_path path) lent last x)
    unfolding contains
    path-only im path lent = go (parse_path path)
      where
        opening : Includes N opening_refusals
        opening = includes-all N opening_refusals (has 1 refl, (has 2 refl, (has 3 refl, (has 4 refl, tt))))

        go : (q : Parsed) → Only N (follow_path im q lent last x)
        go (components ps) = opened-only N opening im _ (λ s. follow-only im s (room_of lent) ps s.root)
        go bad_path = has 14 refl

  pub lookup-only : (im path : List ℕ) (lent : ℕ) → Only N (lookup_run im path lent)
  unfolding lookup_run contains
  lookup-only = path-only locate_walk _ (locate-numbered N (has 3 refl) (has 10 refl) (has 13 refl)) tt

  -- a description: 11 in a dataset, 20 elsewhere
  pub describe-only : N 11 → N 20 → (im path : List ℕ) (lent : ℕ) → Only N (describe_run im path lent)
  unfolding describe_run contains
  describe-only eleven other = path-only describe_walk _ (describe-numbered N (has 3 refl) (has 10 refl) (has 13 refl) eleven other) other
