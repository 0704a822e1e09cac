-- The number of the first k bytes.
use Prim.Native.Nat.{◌≤◌}
use mathlib.Core.Path.{◌≡◌}
use Rattle.format.specs.Bytes.{part}
use Rattle.order.specs.BigEndian.{first_number}
use Rattle.order.proofs.first_number_slow.Given as goal

abbrev pub invariant-loop-k : goal.invariant-loop-k
invariant-loop-k l = (l.k ≤ 8) × (l.x ≡ first_number l.k (part l.s l.at l.size))
