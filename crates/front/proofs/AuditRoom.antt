-- The room of an audit in C: it depends on the words lent by their room alone, and fits it.
use Prim.Native.Nat.{ℕ, ◌*◌, ◌≤◌}
use mathlib.Core.Path.{◌≡◌, ap}
use mathlib.Core.List.{List, []}
use native.Mathlib.Omega.{arith}
use lib.ListN.{length}
use Rattle.format.specs.Blocks.{room_of}
use Rattle.format.specs.Walk.{run}
use Rattle.format.specs.Superblock.{Opening, opened, not_opened, open_image, run_opened}
use Rattle.format.specs.Audit.{audit_run, audit_walk}
use Rattle.walk.specs.Lent.{left}
use Rattle.laws.proofs.Growth.{run-grown}
use Rattle.front.proofs.Lent.{room_of-room}

-- the run depends on the words lent by their room alone
pub run_room : (im : List ℕ) (k : ℕ) → audit_run im (4 * room_of k) ≡ audit_run im k
unfolding audit_run
run_room im k = ap (λ (m : ℕ). run_opened (open_image im) (λ s. run im s.end_of_file m (audit_walk s) [])) (room_of-room k)

-- never more blocks than the room allows
pub run_fits : (im : List ℕ) (k : ℕ) → length (left (audit_run im k)) ≤ room_of k
unfolding audit_run
run_fits im k = go (open_image im)
  where
    go : (o : Opening) → length (left (run_opened o (λ s. run im s.end_of_file (room_of k) (audit_walk s) []))) ≤ room_of k
    go (opened s) = (run-grown im s.end_of_file (room_of k) (audit_walk s) [] (omega arith)).fits
    go (not_opened n) = omega arith
