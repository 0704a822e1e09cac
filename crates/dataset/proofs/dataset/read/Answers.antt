-- The walk over the parts, then the storage walk, each by what its function returned.
use mathlib.Core.Path.{refl}
use Rattle.std.proofs.lemmas.Result.{err_from_is_err_and}
use Rattle.dataset.proofs.DatasetLaws.{parts-refused, parts-read}
use Rattle.dataset.proofs.dataset.read.Goals as goal

pub read_storage-requires-clause-storage_inside : goal.read_storage-requires-clause-storage_inside
read_storage-requires-clause-storage_inside c = record {
  space_inside = c.requires.bodies_inside.space_inside;
  layout_inside = c.requires.bodies_inside.layout_inside;
  shaped = c.in_ok-parts.ensures.parts_shaped;
}

pub returns-in_err-parts-clause-walked : goal.returns-in_err-parts-clause-walked
returns-in_err-parts-clause-walked c =
    let a = c.args in
    let b = a.blocks.now in
    let p = err_from_is_err_and c.from_residual.result c.from_residual.ensures.1 in
    rw (p.1, p.2)
    (parts-refused a.image.now a.bounds.end_of_file a.bounds.room b.count b.words.now c.requires.lent a.bodies.space a.bodies.datatype a.bodies.layout
    c.in_err-parts.ensures.result_value refl)

pub returns-clause-walked : goal.returns-clause-walked
returns-clause-walked c =
    let a = c.args in
    let b = a.blocks.now in
    parts-read a.image.now a.bounds.end_of_file a.bounds.room b.count b.words.now c.requires.lent a.bodies.space a.bodies.datatype a.bodies.layout
    c.in_ok-parts.ensures.result_value refl c.read_storage.new.blocks.words.now c.read_storage.ensures.walked
