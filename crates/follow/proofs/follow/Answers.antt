-- What is left of the path begins at `from`, and leads on from the object at `at`.
use native.Mathlib.Omega.{arith}
use Prim.Native.Nat.{ℕ}
use mathlib.Core.List.{List}
use mathlib.Core.Path.{refl, ap, sym, subst, ◌∙◌}
use Rattle.superblock.specs.Superblock.{superblock_of}
use Rattle.component.specs.Component.{EndsAs}
use Rattle.follow.specs.Follow.{target_run}
use Rattle.component.specs.declared.Target.TheVariants.{Object, Symbolic}
use Rattle.std.specs.Prelude.{Ok, Err}
use Rattle.std.proofs.lemmas.Result.{err_from_is_err_and}
use Rattle.follow.proofs.FollowLaws.{rest-first, object-next, symbolic-next, stopped-next, none_left, root-alone, lent_same}
use Rattle.follow.proofs.follow.Goals as goal

pub returns-then-path-eq1 : goal.returns-then-path-eq1
returns-then-path-eq1 c = root-alone c.args.file.image.now c.args.path.now _ _ _ c.if-path-eq1.true

pub loop-from-init : goal.loop-from-init
loop-from-init c = (
  ap (λ (ps : List (List ℕ)). target_run c.args.file.image.now (superblock_of c.args.file.superblock) c.args.file.room ps c.args.file.superblock.root)
      (rest-first c.args.path.now c.if-path-eq1.false c.requires.in_bounds),
  c.requires.lent,
  refl,
  omega (arith, c.requires.in_bounds),
)

pub slice_bounds-component-end : goal.slice_bounds-component-end
slice_bounds-component-end c = c.component_end-end.ensures.inside

pub component-requires : goal.component-requires
component-requires c = record { opened = c.requires.opened; lent = c.loop-from.invariant.1 }

pub returns-in_err-target : goal.returns-in_err-target
returns-in_err-target c =
    let p = err_from_is_err_and c.from_residual.result c.from_residual.ensures.1 in
    rw (p.1, p.2)
    (subst (EndsAs (Err c.in_err-target.field-0.0)) (sym c.loop-from.invariant.0)
    (stopped-next c.args.file.image.now c.args.path.now (superblock_of c.args.file.superblock) c.args.file.room c.loop-from.from
    c.component_end-end.result c.loop-from.at (omega arith) c.component_end-end.ensures _ c.in_err-target.ensures.found))

pub returns-in-Symbolic : goal.returns-in-Symbolic
returns-in-Symbolic c =
    subst (EndsAs (Ok Symbolic)) (sym c.loop-from.invariant.0)
    (symbolic-next c.args.file.image.now c.args.path.now (superblock_of c.args.file.superblock) c.args.file.room c.loop-from.from
    c.component_end-end.result c.loop-from.at (omega arith) c.component_end-end.ensures (rw c.in-Symbolic.is at c.in_ok-target.ensures).found)

pub overflow_add-from : goal.overflow_add-from
overflow_add-from c = omega (arith, c.component_end-end.ensures.inside)

pub loop-from-smaller : goal.loop-from-smaller
loop-from-smaller c = omega (arith, c.component_end-end.ensures.after)

pub loop-from-preserved : goal.loop-from-preserved
loop-from-preserved c = (
  c.loop-from.invariant.0 ∙ object-next c.args.file.image.now c.args.path.now (superblock_of c.args.file.superblock) c.args.file.room
      c.loop-from.from c.component_end-end.result c.loop-from.at (omega arith) c.component_end-end.ensures
      c.in-Object.address (rw c.in-Object.is at c.in_ok-target.ensures).found,
  lent_same c.loop-from.invariant.1 c.component.auto.list,
  c.component.auto.list ∙ c.loop-from.invariant.2,
  omega (arith, c.component_end-end.ensures.inside),
)

pub returns : goal.returns
returns c =
    subst (EndsAs (Ok (Object c.loop-from.at))) (sym c.loop-from.invariant.0)
    (none_left c.args.file.image.now c.args.path.now _ _ c.loop-from.from c.loop-from.at (omega arith))
