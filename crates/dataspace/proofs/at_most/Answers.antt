-- What the whole comparison finds is what is found from the ith size on; each turn settles one.
use Rattle.dataspace.proofs.DataspaceLaws.{words-start, maxima-end, maxima-below, maxima-next}
use native.Mathlib.Omega.{arith}
use Rattle.dataspace.proofs.at_most.Goals as goal

pub loop-i-init : goal.loop-i-init
loop-i-init c =
    let a = c.args in
    rw (words-start a.body.now a.sizes a.rank, words-start a.body.now a.maxima a.rank)

pub returns-then-maximum-size : goal.returns-then-maximum-size
returns-then-maximum-size c =
    let s = c in
    let a = s.args in
    maxima-below a.body.now a.sizes a.maxima a.rank s.loop-i.i _ s.loop-i.invariant (omega arith) c.u64_at-size.ensures
    c.u64_at-maximum.ensures c.if-maximum-size.true

pub loop-i-preserved : goal.loop-i-preserved
loop-i-preserved c =
    let s = c in
    let a = s.args in
    maxima-next a.body.now a.sizes a.maxima a.rank s.loop-i.i _ s.loop-i.invariant (omega arith)
    c.u64_at-size.ensures c.u64_at-maximum.ensures c.if-maximum-size.false

pub returns : goal.returns
returns c =
    let s = c in
    let a = s.args in
    maxima-end a.body.now a.sizes a.maxima a.rank s.loop-i.i _ s.loop-i.invariant c.loop-i-test.false
