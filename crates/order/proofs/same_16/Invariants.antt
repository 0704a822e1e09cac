-- A difference was found exactly if the bytes looked at aren't the same.
use Prim.Native.Nat.{◌≤◌}
use mathlib.Core.Path.{◌≡◌}
use lib.Dec.{eqb}
use Rattle.format.specs.Bytes.{part, same_bytes}
use Rattle.order.proofs.same_16.Given as goal

abbrev pub invariant-loop-k : goal.invariant-loop-k
invariant-loop-k l = (l.k ≤ 16) × (eqb l.differ 0 ≡ same_bytes (part l.a l.at l.k) (part l.b l.at l.k))
