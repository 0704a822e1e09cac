-- What holds of all components is what holds of those from at on.
use Prim.Native.Nat.{◌≤◌, ◌-◌}
use mathlib.Core.Path.{◌≡◌}
use lib.ListN.{length, drop}
use Rattle.format.specs.Path.{path_parts, all_components}
use Rattle.path.proofs.all_components.Given as goal

abbrev pub invariant-loop-from : goal.invariant-loop-from
invariant-loop-from l = (l.at ≤ length l.path) × (all_components (path_parts (drop l.from l.path)) ≡ all_components (path_parts (drop l.at l.path)))

abbrev pub decreases-loop-from : goal.decreases-loop-from
decreases-loop-from l = length l.path - l.at
