-- The counts before i are read; each turn reads one more.
use Rattle.ledger.proofs.ReportLaws.{stored-none, stored_more, stored-all}
use native.Mathlib.Omega.{arith}
use Rattle.ledger.proofs.report.read_stored.Goals as goal

pub loop-i-init : goal.loop-i-init
loop-i-init c = stored-none _ _ _

pub overflow_add-at : goal.overflow_add-at
overflow_add-at c = omega (arith, c.requires.readable.inside c.loop-i.i c.loop-i-test.true)

pub u32_at-requires : goal.u32_at-requires
u32_at-requires c = omega (arith, c.requires.readable.inside c.loop-i.i c.loop-i-test.true)

pub loop-i-preserved : goal.loop-i-preserved
loop-i-preserved c =
    let l = c in
    stored_more _ _ _ _ _ _ l.loop-i.invariant (omega arith) c.u32_at.ensures

pub returns : goal.returns
returns c =
    let l = c.loop-i in
    stored-all _ _ _ _ l.i _ l.invariant (omega arith)
