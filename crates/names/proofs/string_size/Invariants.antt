-- No byte before the kth is a NUL; the string's NUL is met before the segment's end.
use Prim.Native.Nat.{◌+◌}
use mathlib.Core.Path.{◌≡◌}
use lib.ListN.{drop}
use Rattle.format.specs.Names.{before_nul}
use Rattle.names.proofs.string_size.Given as goal

abbrev pub invariant-loop-k : goal.invariant-loop-k
invariant-loop-k l = before_nul (drop l.off l.segment) ≡ l.k + before_nul (drop (l.off + l.k) l.segment)
