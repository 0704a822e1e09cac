-- The bytes begin with the first i words; each turn writes one more.
use Rattle.std.proofs.Common.{◌≡◌, refl, ◌∙◌, arith, length}
use Rattle.words.proofs.Words.{begins-none, begins-next, begins-all}
use Rattle.words.proofs.spill.Goals as goal

pub loop-i-init : goal.loop-i-init
loop-i-init c = (refl, begins-none _)

pub loop-i-preserved : goal.loop-i-preserved
loop-i-preserved c =
    let l = c.loop-i in (
      c.put_word.auto.out ∙ l.invariant.0,
      begins-next c.args.words.now l.out _ l.i l.invariant.1 (omega arith) (omega (arith, c.requires, l.invariant.0))
          c.put_word.ensures,
    )

pub returns : goal.returns
returns c =
    let l = c.loop-i in
    let ws = c.args.words.now in
    let e : l.i ≡ length ws = omega arith in
    begins-all ws l.out _ (length ws) (length c.args.out.now) (rw e at l.invariant.1) refl l.invariant.0 c.clear_from.ensures
