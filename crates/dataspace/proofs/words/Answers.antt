-- The words read so far stand in front of zeros; each turn writes one more.
use mathlib.Core.Path.{◌≡◌, ap, ◌∙◌}
use lib.ListN.{drop, set}
use Rattle.dataspace.proofs.DataspaceLaws.{rank-held, padded-start, padded-next}
use native.Mathlib.Omega.{arith}
use Rattle.dataspace.proofs.words.Goals as goal

pub loop-i-init : goal.loop-i-init
loop-i-init c = padded-start (drop c.args.from c.args.body.now)

pub bounds-words-i : goal.bounds-words-i
bounds-words-i c = rank-held _ _ c.loop-i-test.true c.requires.rank_le_rank_most

pub loop-i-preserved : goal.loop-i-preserved
loop-i-preserved c =
    let s = c in
    let a = s.args in
    ap (λ (l : _). set l s.loop-i.i c.u64_at.result) s.loop-i.invariant
    ∙ padded-next a.body.now a.from s.loop-i.i (omega (arith, s.requires.rank_le_rank_most)) c.u64_at.ensures

pub returns : goal.returns
returns c =
    let s = c in
    let e : s.loop-i.i ≡ s.args.rank = omega arith in
    s.loop-i.invariant ∙ rw e
