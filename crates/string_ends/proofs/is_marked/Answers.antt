-- The two bounds, one after the other.
use mathlib.Core.Path.{sym}
use Rattle.string_ends.proofs.NumberLaws.{mark-low, mark-from}
use native.Mathlib.Omega.{arith}
use Rattle.string_ends.proofs.is_marked.Goals as goal

pub returns-then-v-lt17 : goal.returns-then-v-lt17
returns-then-v-lt17 c = sym (mark-low c.args.v (omega arith))

pub returns : goal.returns
returns c = sym (mark-from c.args.v (omega arith))
