-- Each read stands behind the ones before it, and the loop leaves none out.
use Rattle.std.proofs.lemmas.Result.{err_from_is_err_and}
use Rattle.input.proofs.ReadingLaws.{going_start, going_more, going-ends, going-fails}
use native.Mathlib.Omega.{arith}
use Rattle.input.proofs.read_to_end.Goals as goal

pub reading-init : goal.reading-init
reading-init g c = going_start c.args.buffer.now 1 (omega (arith, c.requires))

pub returns-in_err-last : goal.returns-in_err-last
returns-in_err-last g c =
    let l = c.reading in
    let p = err_from_is_err_and c.from_residual.result c.from_residual.ensures.1 in
    rw p.1
    (going-fails _ l.buffer l.at l.last l.invariant c.reading-test.true c.read_behind.new.buffer
    (record { kept = c.read_behind.ensures.buffer_unchanged; same_length = c.read_behind.auto.buffer }) p.0)

pub returns-then-ended : goal.returns-then-ended
returns-then-ended g c =
    let l = c.reading in
    rw c.if-ended.true (going-ends _ l.buffer l.at l.last l.invariant c.reading-test.true c.read_behind.new.buffer
    (record { kept = c.read_behind.ensures.buffer_unchanged; same_length = c.read_behind.auto.buffer }))

pub reading-preserved : goal.reading-preserved
reading-preserved g c =
    let l = c.reading in
    going_more _ l.buffer l.at l.last l.invariant c.reading-test.true c.read_behind.new.buffer
    (record { kept = c.read_behind.ensures.buffer_unchanged; same_length = c.read_behind.auto.buffer }) c.in_ok-last.last (omega arith)
    c.in_ok-last.ensures.within

pub returns : goal.returns
returns g c = c.reading.invariant.full (omega (arith, c.reading.invariant.within))
