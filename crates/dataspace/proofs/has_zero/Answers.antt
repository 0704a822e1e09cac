-- What the whole search finds is what is found from the ith size on; each turn settles one.
use Rattle.dataspace.proofs.DataspaceLaws.{words-start, zero-end, zero-here, zero-next}
use native.Mathlib.Omega.{arith}
use Rattle.dataspace.proofs.has_zero.Goals as goal

pub loop-i-init : goal.loop-i-init
loop-i-init c = rw (words-start c.args.body.now 8 c.args.rank)

pub returns-then-u64_at-eq0 : goal.returns-then-u64_at-eq0
returns-then-u64_at-eq0 c =
    let s = c in
    let a = s.args in
    zero-here a.body.now a.rank s.loop-i.i _ s.loop-i.invariant (omega arith) c.u64_at.ensures c.if-u64_at-eq0.true

pub loop-i-preserved : goal.loop-i-preserved
loop-i-preserved c =
    let s = c in
    let a = s.args in
    zero-next a.body.now a.rank s.loop-i.i _ s.loop-i.invariant (omega arith) c.u64_at.ensures c.if-u64_at-eq0.false

pub returns : goal.returns
returns c =
    let s = c in
    let a = s.args in
    zero-end a.body.now a.rank s.loop-i.i _ s.loop-i.invariant c.loop-i-test.false
