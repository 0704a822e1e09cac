-- A cell of the map, or 0 behind it, as the list has it.
use mathlib.Core.Path.{sym}
use lib.ListN.{get_or-eq_default}
use native.Mathlib.Omega.{arith}
use Rattle.free_map.proofs.cell.Goals as goal

pub returns : goal.returns
returns c = sym (get_or-eq_default c.args.map.now 0 (omega arith))
