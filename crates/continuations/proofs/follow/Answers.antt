-- Turn by turn, the walk has come to the continuations that wait at the cursor.
use mathlib.Core.Path.{refl}
use Rattle.format.specs.Header.{continuations}
use Rattle.laws.proofs.Simulation.{start}
use Rattle.std.proofs.lemmas.Result.{err_from_is_err_and}
use Rattle.continuations.proofs.ContinuationLaws.{all_read, not-read, block-lent, waits, followed, loop-now, loop-inside, same_words-then}
use native.Mathlib.Omega.{arith}
use Rattle.continuations.proofs.follow.Goals as goal

pub loop-c-init : goal.loop-c-init
loop-c-init g c = (
  record {
    going = λ fuel waiting sofar l k o t.
        record {
          fuel = fuel;
          waiting = waiting;
          sofar = sofar;
          come = start _ _ _ (continuations _ fuel waiting _) _ _ k;
          sought = o;
          tally = t;
          lasts = l;
        };
  },
  c.requires.counting,
  record { same = refl; long = refl },
  g.met.V.MessageVisitor.lasts.itself _,
)

pub overflow_add-at : goal.overflow_add-at
overflow_add-at g c =
    let i = loop-inside c.loop-c.invariant.0 c.requires.lending (c.seek-c.ensures _ c.requires.ready.1) c.requires.has_tally.1 c.loop-c-test.true in
    omega (arith, i.0, i.1)

pub u64_at-address-requires : goal.u64_at-address-requires
u64_at-address-requires g c =
    let i = loop-inside c.loop-c.invariant.0 c.requires.lending (c.seek-c.ensures _ c.requires.ready.1) c.requires.has_tally.1 c.loop-c-test.true in
    omega (arith, i.0, i.1)

pub overflow_add-at-in-loop-c : goal.overflow_add-at-in-loop-c
overflow_add-at-in-loop-c g c =
    let i = loop-inside c.loop-c.invariant.0 c.requires.lending (c.seek-c.ensures _ c.requires.ready.1) c.requires.has_tally.1 c.loop-c-test.true in
    omega (arith, i.0, i.1)

pub u64_at-size-requires : goal.u64_at-size-requires
u64_at-size-requires g c =
    let i = loop-inside c.loop-c.invariant.0 c.requires.lending (c.seek-c.ensures _ c.requires.ready.1) c.requires.has_tally.1 c.loop-c-test.true in
    omega (arith, i.0, i.1)

pub read_block-requires-clause-lending : goal.read_block-requires-clause-lending
read_block-requires-clause-lending g c =
    let f = loop-now c.loop-c.invariant.0 c.requires.lending (c.seek-c.ensures _ c.requires.ready.1) c.requires.has_tally.1 in
    record { lent = f.come.lent; most = c.requires.lending.most; file = c.requires.lending.file }

pub returns-in_err-read_block-clause-by_index : goal.returns-in_err-read_block-clause-by_index
returns-in_err-read_block-clause-by_index g c = λ fuel waiting sofar l w t.
    let p = err_from_is_err_and c.from_residual.result c.from_residual.ensures.1 in
    let f = c.loop-c.invariant.0.going fuel waiting sofar l c.requires.lending.lent (c.seek-c.ensures waiting w) t in
    rw (p.1, p.2)
    (not-read _ _ _ _ _ _ _ _ _ _ _ _ c.requires.lending.most f c.loop-c-test.true _ _ c.u64_at-address.ensures c.u64_at-size.ensures _ _
    c.in_err-read_block.ensures.read)

pub overflow_add-next : goal.overflow_add-next
overflow_add-next g c =
    let i = loop-inside c.loop-c.invariant.0 c.requires.lending (c.seek-c.ensures _ c.requires.ready.1) c.requires.has_tally.1 c.loop-c-test.true in
    omega (arith, i.0, i.1)

pub overflow_add-at-in-loop-c-2 : goal.overflow_add-at-in-loop-c-2
overflow_add-at-in-loop-c-2 g c =
    let i = loop-inside c.loop-c.invariant.0 c.requires.lending (c.seek-c.ensures _ c.requires.ready.1) c.requires.has_tally.1 c.loop-c-test.true in
    omega (arith, i.0, i.1)

pub u16_at-requires : goal.u16_at-requires
u16_at-requires g c =
    let i = loop-inside c.loop-c.invariant.0 c.requires.lending (c.seek-c.ensures _ c.requires.ready.1) c.requires.has_tally.1 c.loop-c-test.true in
    omega (arith, i.0, i.1)

pub overflow_add-next-in-loop-c : goal.overflow_add-next-in-loop-c
overflow_add-next-in-loop-c g c =
    let i = loop-inside c.loop-c.invariant.0 c.requires.lending (c.seek-c.ensures _ c.requires.ready.1) c.requires.has_tally.1 c.loop-c-test.true in
    omega (arith, i.0, i.1, c.u16_at.ensures.value)

pub seek-c-requires-in-loop-c-clause-ready : goal.seek-c-requires-in-loop-c-clause-ready
seek-c-requires-in-loop-c-clause-ready g c =
    let f = loop-now c.loop-c.invariant.0 c.requires.lending (c.seek-c.ensures _ c.requires.ready.1) c.requires.has_tally.1 in
    let b = c.in_ok-read_block.ensures.read in
    let w = waits _ _ _ _ _ _ _ _ _ _ _ _ c.requires.lending.most f c.loop-c-test.true _ _ c.u64_at-address.ensures
    c.u64_at-size.ensures _ _ b.new _ _ c.in_ok-read_block.ensures.kept.long b.walked b.block b.tally in
    (_, rw (← c.u16_at.ensures.value) at w)

pub loop-c-smaller : goal.loop-c-smaller
loop-c-smaller g c =
    let f = loop-now c.loop-c.invariant.0 c.requires.lending (c.seek-c.ensures _ c.requires.ready.1) c.requires.has_tally.1 in
    let b = c.in_ok-read_block.ensures.read in
    let l = block-lent _ _ _ _ _ _ _ _ _ _ _ _ c.requires.lending.most f c.loop-c-test.true _ _ c.u64_at-address.ensures
    c.u64_at-size.ensures _ _ b.new _ _ c.in_ok-read_block.ensures.kept.long b.walked b.block b.tally in
    omega (arith, l.counted, b.block.counted)

pub loop-c-preserved : goal.loop-c-preserved
loop-c-preserved g c =
    let b = c.in_ok-read_block.ensures.read in (
      record {
        going = λ fuel waiting sofar l k o t.
            let f = c.loop-c.invariant.0.going fuel waiting sofar l k o t in
            let w = waits _ _ _ _ _ _ _ _ _ _ _ _ c.requires.lending.most f c.loop-c-test.true _ _ c.u64_at-address.ensures
            c.u64_at-size.ensures _ _ b.new _ _ c.in_ok-read_block.ensures.kept.long b.walked b.block b.tally in
            followed _ _ _ _ _ _ _ _ _ _ _ _ c.requires.lending.most f c.loop-c-test.true _ _ c.u64_at-address.ensures
            c.u64_at-size.ensures _ _ b.new _ _ c.in_ok-read_block.ensures.kept.long b.walked b.block b.tally _
            (c.seek-c-in-loop-c.ensures _ (rw c.u16_at.ensures.value w));
      },
      c.in_ok-read_block.ensures.counting_on,
      same_words-then _ _ _ c.loop-c.invariant.2 c.in_ok-read_block.ensures.kept,
      g.met.V.MessageVisitor.lasts.next _ _ _ c.loop-c.invariant.3 c.in_ok-read_block.ensures.same,
    )

pub returns-clause-by_index : goal.returns-clause-by_index
returns-clause-by_index g c = λ fuel waiting sofar l w t.
    let f = c.loop-c.invariant.0.going fuel waiting sofar l c.requires.lending.lent (c.seek-c.ensures waiting w) t in
    (f.sofar, all_read _ _ _ _ _ _ _ _ _ _ _ _ c.requires.lending.most f c.loop-c-test.false, f.tally)
