-- Each answer by the tests before it.
use Rattle.format.specs.Names.{string_at}
use Rattle.names.proofs.NameLaws.{key-outside, key-no-nul, key-sound}
use native.Mathlib.Omega.{arith}
use Rattle.names.proofs.key.Goals as goal

pub returns-then-segment-off : goal.returns-then-segment-off
returns-then-segment-off c = let a = c.args in λ free. key-outside a.segment.now a.ended a.off free (omega arith)

pub returns-then-ended-off : goal.returns-then-ended-off
returns-then-ended-off c = let a = c.args in λ free. key-no-nul a.segment.now a.ended a.off free c.requires (omega arith) (omega arith)

pub returns : goal.returns
returns c =
    let a = c.args in
    λ free. (string_at a.segment.now a.off, key-sound a.segment.now a.ended a.off free c.requires (omega arith))
