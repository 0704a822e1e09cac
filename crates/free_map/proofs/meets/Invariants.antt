-- What the whole search finds is what it finds from this cell's byte on; each turn settles one cell.
use Prim.Native.Nat.{◌+◌, ◌*◌, ◌<◌}
use Rattle.free_map.proofs.SearchLaws.{Left}
use Rattle.free_map.proofs.meets.Given as goal

abbrev pub invariant-loop-c : goal.invariant-loop-c
invariant-loop-c l = (l.from < 16) × (16 * l.c + l.from < l.off + l.size) × Left l.map l.off l.size (16 * l.c + l.from)
