-- What the whole test finds is what is found from the ith entry on; each turn reads and settles one.
use Prim.Native.Nat.{◌/◌}
use mathlib.Core.Path.{refl}
use lib.ListN.{length}
use Rattle.undo.specs.Reply.{words_of}
use Rattle.undo.proofs.UndoLaws.{all_end, all_here, all-next}
use Rattle.undo.proofs.ByteLaws.{entry-fits}
use native.Mathlib.Omega.{arith}
use Rattle.undo.proofs.all_fit.Goals as goal

pub loop-i-init : goal.loop-i-init
loop-i-init c = refl

pub returns-then-not-fits : goal.returns-then-not-fits
returns-then-not-fits c =
    let s = c in
    let a = s.args in
    let read = c.u64_at-field.ensures in
    let one = entry-fits a.log.now s.loop-i.i (omega arith) read c.u64_at-word.ensures a.image.now c.fits.ensures in
    all_here a.image.now (words_of a.log.now) (length a.log.now / 16) s.loop-i.i _ s.loop-i.invariant (omega arith) one c.if-not-fits.true

pub loop-i-preserved : goal.loop-i-preserved
loop-i-preserved c =
    let s = c in
    let a = s.args in
    let read = c.u64_at-field.ensures in
    let one = entry-fits a.log.now s.loop-i.i (omega arith) read c.u64_at-word.ensures a.image.now c.fits.ensures in
    let fit = c.if-not-fits.false in
    all-next a.image.now (words_of a.log.now) (length a.log.now / 16) s.loop-i.i _ s.loop-i.invariant (omega arith) one fit

pub returns : goal.returns
returns c =
    let s = c in
    let a = s.args in
    all_end a.image.now (words_of a.log.now) (length a.log.now / 16) s.loop-i.i _ s.loop-i.invariant c.loop-i-test.false
