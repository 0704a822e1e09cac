-- The string at off ends outside exactly if the rest of it from i on does; the first byte that decides is met before the cell's end, or none is.
use Prim.Native.Nat.{◌+◌}
use Rattle.string_ends.proofs.ScanLaws.{Scan}
use Rattle.string_ends.proofs.ends_in_cell.Given as goal

abbrev pub invariant-loop-k : goal.invariant-loop-k
invariant-loop-k l = Scan l.segment l.v l.off l.start l.end (l.start + l.k)
