-- The heap, then what stands behind it.
use Rattle.laws.proofs.SumOfLengths.{grown-apart, grown-inside, grown-lengths}
use Rattle.heap.specs.Header.{open_heap}
use Rattle.group.proofs.GroupLaws.{heap-stopped, at-contents, contents-ended}
use native.Mathlib.Omega.{arith}
use Rattle.std.proofs.lemmas.Result.{err_from_is_err_and}
use Rattle.group.proofs.group.read.Goals as goal

pub returns-in_err-heap-clause-read : goal.returns-in_err-heap-clause-read
returns-in_err-heap-clause-read g c =
    let p = err_from_is_err_and c.from_residual.result c.from_residual.ensures.1 in
    rw (p.1, p.2) (record {
      walked = heap-stopped c.args.reading.now.image.now _ _ _ _ c.requires.ready.lent _ _ _ _ _ _ _ _ c.in_err-heap.ensures.walked;
      ready = tt;
    })

pub read_in-requires-clause-ready : goal.read_in-requires-clause-ready
read_in-requires-clause-ready g c =
    let reading = c.args.reading.now in
    let ready = c.requires.ready in
    let v = g.V.Visitor in
    let a =
    at-contents reading.image.now _ _ _ _ ready.lent reading.leaf_k reading.internal_k c.args.tree c.args.heap
    (v.visit c.args.visitor.now) (v.found c.args.visitor.now) _
    (open_heap reading.image.now c.in_ok-heap.heap) _ c.in_ok-heap.ensures.kept.long c.in_ok-heap.ensures.walked in record {
      lent = a.lent;
      apart = grown-apart a.blocks ready.apart;
      inside = grown-inside a.blocks ready.inside;
      links = omega (arith, ready.links, grown-lengths a.blocks);
    }

pub returns-clause-read : goal.returns-clause-read
returns-clause-read g c =
    record {
      walked =
          contents-ended c.args.reading.now.image.now _ _ _ _ c.requires.ready.lent _ _ _ _ _ _ _
          (open_heap c.args.reading.now.image.now c.in_ok-heap.heap) _ c.in_ok-heap.ensures.kept.long c.in_ok-heap.ensures.walked _ _ _ _
          c.read_in.ensures.kept.long c.read_in.ensures.read.walked;
      ready = c.read_in.ensures.read.ready;
    }
