-- Turn by turn, the entries that are left to read.
use native.Mathlib.Omega.{arith}
use Rattle.symbol.proofs.EntryLaws.{reading-start, reading-end, reading-refused, reading-again}
use Rattle.std.proofs.lemmas.Result.{err_from_is_err_and}
use Rattle.symbol.proofs.entry.entries.Goals as goal

pub loop-i-init : goal.loop-i-init
loop-i-init g c = (
  record {
    reading = reading-start c.requires.strings.last;
    above = c.floor-floor.ensures;
    links_most = omega arith;
  },
  c.requires.ready,
  g.met.V.Visitor.same_reflexive _,
)

pub returns-in_err-last-clause-read : goal.returns-in_err-last-clause-read
returns-in_err-last-clause-read g c =
    let p = err_from_is_err_and c.from_residual.result c.from_residual.ensures.1 in
    let e = g.met.V.Visitor.same_visit _ _ c.loop-i.invariant.2 in
    rw (p.1, p.2) (reading-refused c.loop-i.invariant.0.reading c.loop-i-test.true _ (rw e at c.in_err-last.ensures.read))

pub loop-i-preserved : goal.loop-i-preserved
loop-i-preserved g c =
    let turn = c.loop-i.invariant.0 in
    let next = c.in_ok-last.ensures in
    let e = g.met.V.Visitor.same_visit _ _ c.loop-i.invariant.2 in (
      record {
        reading = reading-again turn.reading c.loop-i-test.true _ (rw e at next.read);
        above = next.read.floor;
        links_most = omega (arith, turn.links_most, next.links);
      },
      next.ready,
      g.met.V.Visitor.same_transitive _ _ _ c.loop-i.invariant.2 next.same,
    )

pub returns-clause-read : goal.returns-clause-read
returns-clause-read g c = reading-end c.loop-i.invariant.0.reading c.loop-i-test.false
