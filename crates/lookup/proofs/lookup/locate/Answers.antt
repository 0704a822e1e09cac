-- Where the path leads, then the kind of the object found there.
use mathlib.Core.Path.{ap, ◌∙◌}
use Rattle.std.proofs.lemmas.Result.{err_from_is_err_and}
use Rattle.walk.specs.Lent.{places_of}
use Rattle.object.proofs.ObjectLaws.{opened, room-lent}
use Rattle.lookup.proofs.LookupLaws.{stopped-is, symbolic-is, last-stopped, last-known}
use Rattle.lookup.proofs.lookup.locate.Goals as goal

pub kind_at-requires : goal.kind_at-requires
kind_at-requires c =
    record {
      opened = opened c.args.image.now c.args.superblock _ _ c.places-room.ensures c.requires.bounded;
      lent = room-lent _ _ c.places-room.ensures;
    }

pub returns-in_err-find_object : goal.returns-in_err-find_object
returns-in_err-find_object c =
    let p = err_from_is_err_and c.from_residual.result c.from_residual.ensures.1 in
    rw (p.1, p.2) (stopped-is c.args.image.now c.args.path.now _ c.args.superblock _ c.in_err-find_object.ensures)

pub returns-in-Symbolic : goal.returns-in-Symbolic
returns-in-Symbolic c = symbolic-is c.args.image.now c.args.path.now _ c.args.superblock (rw c.in-Symbolic.is at c.in_ok-find_object.ensures)

pub returns-in_err-kind-in-Object : goal.returns-in_err-kind-in-Object
returns-in_err-kind-in-Object c =
    let p = err_from_is_err_and c.from_residual-in_err-kind-in-Object.result c.from_residual-in_err-kind-in-Object.ensures.1 in
    rw (p.1, p.2)
    (last-stopped c.args.image.now c.args.path.now _ c.args.superblock _ (rw c.in-Object.is at c.in_ok-find_object.ensures) _
    (rw (c.places-room.ensures ∙ ap places_of c.find_object.auto.list) at c.in_err-kind-in-Object.ensures))

pub returns-in_ok-kind-in-Object : goal.returns-in_ok-kind-in-Object
returns-in_ok-kind-in-Object c =
    last-known c.args.image.now c.args.path.now _ c.args.superblock _ (rw c.in-Object.is at c.in_ok-find_object.ensures) _
    (rw (c.places-room.ensures ∙ ap places_of c.find_object.auto.list) at c.in_ok-kind-in-Object.ensures)
