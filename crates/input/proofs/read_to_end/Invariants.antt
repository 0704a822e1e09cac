-- Each read stands behind the ones before it, and the loop leaves none out.
use Rattle.std.specs.declared.io.Error.{Error}
use Prim.Native.Nat.{◌-◌}
use lib.ListN.{length}
use Rattle.input.proofs.ReadingLaws.{Going}
use Rattle.input.proofs.read_to_end.Given as goal

abbrev pub invariant-reading : goal.invariant-reading
invariant-reading g l = Going Error l.initial.buffer l.buffer l.at l.last

abbrev pub decreases-reading : goal.decreases-reading
decreases-reading g l = length l.buffer - l.at
