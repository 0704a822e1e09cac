-- The lines of the first i objects are written; each turn writes one more.
use borrow.Author.Rules.{rules}
use mathlib.Core.Path.{◌≡◌, refl, ◌∙◌}
use native.Mathlib.Omega.{arith}
use Rattle.format.specs.Limits.{objects_most}
use Rattle.format.specs.Bytes.{overwrite}
use Rattle.format.specs.Command.{object_lines}
use Rattle.ledger.specs.Report.{counted_places}
use Rattle.output.proofs.LineLaws.{line-written}
use Rattle.output.proofs.put_objects.Goals as goal

pub loop-i-init : goal.loop-i-init
unfolding object_lines counted_places overwrite
loop-i-init c = (omega arith, refl, refl)

pub bounds-ledger-i : goal.bounds-ledger-i
unfolding objects_most
bounds-ledger-i c = search rules

pub bounds-ledger-i-in-loop-i : goal.bounds-ledger-i-in-loop-i
unfolding objects_most
bounds-ledger-i-in-loop-i c = search rules

pub bounds-ledger-i-in-loop-i-2 : goal.bounds-ledger-i-in-loop-i-2
unfolding objects_most
bounds-ledger-i-in-loop-i-2 c = search rules

pub loop-i-preserved : goal.loop-i-preserved
loop-i-preserved c =
    let l = c.loop-i in
    let a = c.args in (
      omega arith,
      omega arith,
      rw (c.put_object.ensures, l.invariant.0, l.invariant.2)
          (line-written a.out.now a.at l.i a.ledger.addresses a.ledger.stored a.ledger.true_counts),
    )

pub returns : goal.returns
returns c =
    let l = c.loop-i in
    let e : l.i ≡ c.args.ledger.objects = omega arith in
    record {
      value = omega arith;
      out_after = l.invariant.2 ∙ rw e;
    }
