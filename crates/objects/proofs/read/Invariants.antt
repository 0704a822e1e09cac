-- The lists stay sound, and what is left of the walk begins at the i-th object.
use Prim.Native.Nat.{◌-◌}
use Rattle.format.specs.Limits.{objects_most}
use Rattle.objects.proofs.ObjectsLaws.{Loop}
use Rattle.objects.proofs.read.Given as goal

abbrev pub invariant-loop-i : goal.invariant-loop-i
invariant-loop-i l = Loop l.file l.fn.blocks l.fn.found l.blocks l.found l.i

abbrev pub decreases-loop-i : goal.decreases-loop-i
decreases-loop-i l = objects_most - l.i
