-- The sizes are read from the body again; a shared datatype has no size.
use mathlib.Core.Path.{subst, sym}
use mathlib.Core.List.{List}
use Prim.Native.Nat.{ℕ, ◌+◌, ◌*◌, ◌≤◌}
use lib.ListN.{length}
use Rattle.dataset.proofs.DatasetLaws.{body-part, own-fills}
use Rattle.dataset.proofs.dataset.filled.Goals as goal

pub fills-requires : goal.fills-requires
fills-requires c =
    let a = c.args in
    subst (λ (b : List ℕ). 8 + 8 * a.dataset.dimensions.rank ≤ length b) (sym (body-part a.image.now a.space.place a.space.size)) c.requires.sizes_inside

pub returns-in-Own : goal.returns-in-Own
returns-in-Own c =
    let a = c.args in
    own-fills a.dataset (body-part a.image.now a.space.place a.space.size) c.in-Own.is
    c.data_size-stored.ensures c.fills.ensures
