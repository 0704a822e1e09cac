-- A short segment has no more cells than the first map.
use native.Mathlib.Omega.{arith}
use Rattle.group.proofs.maps.read_in.Goals as goal

pub read_mapped-requires-clause-size_bound : goal.read_mapped-requires-clause-size_bound
read_mapped-requires-clause-size_bound g c = omega arith
