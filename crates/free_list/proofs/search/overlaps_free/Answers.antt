-- What the whole search finds is what is found from the ith block on, which stands at `at`; each turn settles one block.
use Rattle.free_list.proofs.ChainLaws.{chained-next, search-turn, search-hit, search-below, search-above, search-end}
use native.Mathlib.Omega.{arith}
use Rattle.free_list.proofs.search.overlaps_free.Goals as goal
use Rattle.free_list.proofs.search.overlaps_free.Goals.{else-at-end-via-then-at-end+else-off-at-2, else-at-end-via-else-at-end}

pub returns-then-off-at-2 : goal.returns-then-off-at-2
returns-then-off-at-2 c =
    let l = c.loop-i in
    let a = c.args in
    let f = a.free in
    search-hit _ _ _ _ _ _
    (search-turn f.segment.now f.count l._i l.at c.u64_at-own.result a.off a.size _ (omega arith) c.u64_at-own.ensures.value l.invariant.1) (omega arith)
    (grind arith)

pub loop-i-preserved : goal.loop-i-preserved
loop-i-preserved c =
    let l = c.loop-i in
    let a = c.args in
    let f = a.free in
    let t = search-turn f.segment.now f.count l._i l.at c.u64_at-own.result a.off a.size _ (omega arith) c.u64_at-own.ensures.value l.invariant.1 in (
      rw c.u64_at-at.ensures.value (chained-next f.segment.now f.count l._i l.at (omega arith) l.invariant.0),
      rw c.u64_at-at.ensures.value
          (elim c.else-at-end.branch [
            | else-at-end-via-then-at-end+else-off-at-2 w ↦
                search-above _ _ _ _ _ _ t (grind arith)
            | else-at-end-via-else-at-end w ↦ search-below _ _ _ _ _ _ t (omega arith)
          ]),
    )

pub returns : goal.returns
returns c =
    let l = c.loop-i in
    let a = c.args in
    let f = a.free in
    search-end f.segment.now f.count l._i l.at a.off a.size _ (omega arith) l.invariant.1
