-- Each test settles the range that the number lies in.
use mathlib.Core.Path.{sym}
use native.Mathlib.Omega.{arith}
use Rattle.free_map.proofs.CellLaws.{start_plain, start-marked, start-both}
use Rattle.free_map.proofs.free_start.Goals as goal

pub returns-then-v-lt17 : goal.returns-then-v-lt17
returns-then-v-lt17 c = sym (start_plain c.args.v (omega arith))

pub returns-then-v-lt33 : goal.returns-then-v-lt33
returns-then-v-lt33 c = sym (start-marked c.args.v (omega arith) (omega arith))

pub returns : goal.returns
returns c = sym (start-both c.args.v (omega arith))
