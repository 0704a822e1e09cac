-- The first i entries are performed; each turn performs one more.
use native.Mathlib.Omega.{arith}
use Prim.Native.Nat.{◌/◌}
use mathlib.Core.Path.{◌≡◌, refl, ◌∙◌}
use lib.ListN.{length}
use Rattle.format.specs.Log.{changes, written}
use Rattle.undo_log.proofs.WrittenLaws.{perform-more}
use Rattle.undo_log.proofs.perform.Goals as goal

pub loop-i-init : goal.loop-i-init
unfolding written changes
loop-i-init c = (refl, refl)

pub put_u32-requires : goal.put_u32-requires
put_u32-requires c =
    let test = c in
    omega (arith, test.requires test.loop-i.i test.loop-i-test.true)

pub loop-i-preserved : goal.loop-i-preserved
loop-i-preserved c =
    let l = c.loop-i in
    let a = c.args in
    let p = c.put_u32.ensures in
    (omega arith, perform-more a.image.now _ a.log.now l.i (rw l.invariant.1 at p))

pub returns : goal.returns
returns c =
    let l = c.loop-i in
    let e : l.i ≡ length c.args.log.now / 2 = omega arith in
    l.invariant.1 ∙ rw e
