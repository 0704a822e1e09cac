-- The part of the image is the body.
use mathlib.Core.Path.{subst}
use mathlib.Core.List.{List}
use Prim.Native.Nat.{ℕ}
use Rattle.dataspace.specs.Dataspace.{SpaceRead}
use Rattle.dataset.proofs.DatasetLaws.{body-part}
use Rattle.dataset.proofs.dataset.read_space.Goals as goal

pub returns : goal.returns
returns c =
    let a = c.args in
    subst (λ (b : List ℕ). SpaceRead b c.read.result) (body-part a.image.now a.body.place a.body.size) c.read.ensures
