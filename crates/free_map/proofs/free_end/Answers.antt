-- The test settles the range that the number lies in.
use mathlib.Core.Path.{sym}
use native.Mathlib.Omega.{arith}
use Rattle.free_map.proofs.CellLaws.{end_none, end-both}
use Rattle.free_map.proofs.free_end.Goals as goal

pub returns-then-v-lt33 : goal.returns-then-v-lt33
returns-then-v-lt33 c = sym (end_none c.args.v (omega arith))

pub returns : goal.returns
returns c = sym (end-both c.args.v (omega arith))
