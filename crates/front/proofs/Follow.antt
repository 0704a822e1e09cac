-- A path followed with so many words lent.
use Prim.Native.Nat.{ℕ, ◌*◌, ◌≤◌}
use mathlib.Core.Path.{◌≡◌, refl, ap}
use mathlib.Core.List.{List, [], ◌∷◌}
use native.Mathlib.Omega.{arith}
use lib.ListN.{length}
use Rattle.format.specs.Bytes.{is_empty}
use Rattle.format.specs.Blocks.{room_of}
use Rattle.format.specs.Walk.{Walk, Outcome, done, refused, run, and_then, ◌>>◌}
use Rattle.format.specs.Superblock.{Superblock, Opening, opened, not_opened, open_image, run_opened, superblock_walk}
use Rattle.format.specs.Path.{Parsed, components, bad_path}
use Rattle.format.specs.Lookup.{Target, object, symbolic, component_walk, from_target, follow, follow_path}
use Rattle.walk.specs.Lent.{left}
use Rattle.laws.proofs.Growth.{run-grown}
use Rattle.front.proofs.Lent.{room_of-room}

-- The object found is walked by `last`, and a symbolic link ends in x.
module _ {A : Type 0} (im : List ℕ) (k : ℕ) (last : ℕ → Walk A) (x : Outcome A) where
  -- the words lent matter by their room alone
  pub path_room : (p : Parsed) → follow_path im p (4 * room_of k) last x ≡ follow_path im p k last x
  path_room (components ps) = ap (λ (m : ℕ). run_opened (open_image im) (λ s. follow im s m last x ps s.root)) (room_of-room k)
  path_room bad_path = refl

  module _ (h : length (left x) ≤ room_of k) where
    follow-fits : (s : Superblock) (ps : List (List ℕ)) (at : ℕ) → length (left (follow im s (room_of k) last x ps at)) ≤ room_of k
    unfolding follow
    follow-fits s [] at = (run-grown im s.end_of_file (room_of k) (superblock_walk s >> last at) [] (omega arith)).fits
    follow-fits s (p ∷ ps) at =
        go (run im s.end_of_file (room_of k) (component_walk s p (is_empty ps) at) [])
        (run-grown im s.end_of_file (room_of k) (component_walk s p (is_empty ps) at) [] (omega arith)).fits
        (λ a. follow-fits s ps a)
      where
        go : (o : Outcome Target) → length (left o) ≤ room_of k → ((a : ℕ) → length (left (follow im s (room_of k) last x ps a)) ≤ room_of k) →
            length (left (and_then o (λ t bs. from_target t (λ a. follow im s (room_of k) last x ps a) x))) ≤ room_of k
        go (done (object a) bs) g f = f a
        go (done symbolic bs) g f = h
        go (refused n bs) g f = g

    -- never more blocks than the room allows
    pub path-fits : (p : Parsed) → length (left (follow_path im p k last x)) ≤ room_of k
    path-fits bad_path = omega arith
    path-fits (components ps) = go (open_image im)
      where
        go : (o : Opening) → length (left (run_opened o (λ s. follow im s (room_of k) last x ps s.root))) ≤ room_of k
        go (opened s) = follow-fits s ps s.root
        go (not_opened n) = omega arith
