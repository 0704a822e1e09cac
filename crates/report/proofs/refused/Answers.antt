-- The fields are the definition's.
use mathlib.Core.Path.{refl}
use Rattle.walk.specs.Lent.{blocks_of}
use Rattle.report.proofs.refused.Goals as goal

pub returns : goal.returns
returns c =
    let a = c.args in
    let damaged = c.damaged.ensures (blocks_of a.entered a.list.now) c.requires.list_value in
    rw (c.number_of.ensures, c.damage_place.ensures, damaged, c.met_of.ensures) refl
