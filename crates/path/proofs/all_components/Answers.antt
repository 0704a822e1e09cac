-- What holds of all components is what holds of those from at on.
use mathlib.Core.Path.{refl, sym, ◌∙◌}
use Rattle.path.proofs.PathLaws.{all-refused, all_done, all-next}
use native.Mathlib.Omega.{arith}
use Rattle.path.proofs.all_components.Goals as goal

pub loop-from-init : goal.loop-from-init
loop-from-init c = (omega arith, refl)

pub returns-then-not-is_component : goal.returns-then-not-is_component
returns-then-not-is_component c =
    let i = c in
    let e = i in
    let l = e in
    all-refused l.args.path.now l.loop-from.at e.component_end-end.result e.component_end-end.ensures _ l.loop-from.invariant.1
    (sym i.is_component.ensures ∙ c.if-not-is_component.true)

pub returns-then-end-path : goal.returns-then-end-path
returns-then-end-path c =
    let i = c in
    let e = i in
    let l = e in
    all_done l.args.path.now l.loop-from.at e.component_end-end.result e.component_end-end.ensures _ l.loop-from.invariant.1
    (omega arith) (sym i.is_component.ensures ∙ c.if-not-is_component.false)

pub loop-from-preserved : goal.loop-from-preserved
loop-from-preserved c =
    let i = c in
    let e = i in
    let l = e in (
      omega arith,
      all-next l.args.path.now l.loop-from.at e.component_end-end.result e.component_end-end.ensures _ l.loop-from.invariant.1
          (omega arith) (sym i.is_component.ensures ∙ c.if-not-is_component.false),
    )
