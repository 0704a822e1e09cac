-- Turn by turn, the messages from here on behind those that were read.
use Prim.Native.Nat.{ℕ, ◌+◌, ◌-◌}
use mathlib.Core.Path.{◌≡◌}
use Rattle.std.specs.Prelude.{Ok, Err}
use Rattle.format.specs.Walk.{fault}
use Rattle.std.proofs.lemmas.Result.{err_from_is_err_and}
use Rattle.scan.proofs.ScanLaws.{scanning-start, scanning-end, scanning-refused, scanning-visit-refused, scanning-read}
use native.Mathlib.Omega.{arith}
use Rattle.scan.proofs.scan_block.Goals as goal

pub loop-at-init : goal.loop-at-init
loop-at-init g c =
    let from = c.args.span.from in
    let none : from - from ≡ 0 = omega arith in (
      scanning-start _ _ _ _ _ _ c.requires.from_le_end,
      rw none (g.met.V.MessageVisitor.counts.none _ _ c.requires.room),
      g.met.V.MessageVisitor.lasts.itself _,
    )

pub visit_message-requires : goal.visit_message-requires
visit_message-requires g c = g.met.V.MessageVisitor.counts.room _ _ _ _ _ (omega arith) c.requires.room c.loop-at.invariant.1

pub returns-in_err-message-clause-scanned : goal.returns-in_err-message-clause-scanned
returns-in_err-message-clause-scanned g c =
    let p = err_from_is_err_and c.from_residual.result c.from_residual.ensures.1 in
    let f : (n : ℕ) × (c.message.result ≡ Err n) × (c.in_err-message.field-0.0 ≡ fault n c.loop-at.at) = grind arith in
    let read = rw f.1 at c.message.ensures in
    rw (p.1, p.2, f.2)
    (scanning-refused _ _ _ _ _ _ _ _ _ c.loop-at.invariant.0 c.requires.end_in_bounds c.loop-at-test.true f.0 read.walk)

pub returns-in_err-map_err-clause-scanned : goal.returns-in_err-map_err-clause-scanned
returns-in_err-map_err-clause-scanned g c =
    let at = c.loop-at.at in
    let m = c.in_ok-message.message in
    let p = err_from_is_err_and c.from_residual-in_err-map_err.result c.from_residual-in_err-map_err.ensures.1 in
    let e : c.message.result ≡ Ok m = grind arith in
    let f : (n : ℕ) × (c.visit_message.result ≡ Err n) × (c.in_err-map_err.field-0.0 ≡ fault n at) = grind arith in
    let size : at + 8 + m.size - (at + 8) ≡ m.size = omega arith in
    let read = rw e at c.message.ensures in
    rw (p.1, p.2, f.2)
    (scanning-visit-refused _ _ _ _ _ _ _ _ _ c.loop-at.invariant.0 c.requires.end_in_bounds c.loop-at-test.true _ _ _
    read.fields read.walk f.0 (rw (f.1, size) at (c.visit_message.ensures.visited m.flags (at + 8))))

pub loop-at-preserved : goal.loop-at-preserved
loop-at-preserved g c =
    let at = c.loop-at.at in
    let m = c.in_ok-message.message in
    let inv = c.loop-at.invariant in
    let e : c.message.result ≡ Ok m = grind arith in
    let f : c.visit_message.result ≡ Ok tt = grind arith in
    let size : at + 8 + m.size - (at + 8) ≡ m.size = omega arith in
    let read = rw e at c.message.ensures in
    let visited = rw f at c.visit_message.ensures.visited in
    let counted = rw f at c.visit_message.ensures.counted in (
      scanning-read _ _ _ _ _ _ _ _ _ inv.0 c.requires.end_in_bounds c.loop-at-test.true _ _ _ read.fields
          read.walk _ (rw size at (visited m.flags (at + 8))) _ (c.counted.ensures c.args.image.now),
      g.met.V.MessageVisitor.counts.more _ _ _ _ _ _ (omega (arith, inv.0.before)) inv.1 counted,
      g.met.V.MessageVisitor.lasts.next _ _ _ inv.2 c.visit_message.ensures.same,
    )

pub returns-clause-scanned : goal.returns-clause-scanned
returns-clause-scanned g c =
    let inv = c.loop-at.invariant in (
      inv.0.read,
      scanning-end _ _ _ _ _ _ _ _ _ inv.0 c.requires.end_in_bounds c.loop-at-test.false,
      inv.0.tally,
    )
