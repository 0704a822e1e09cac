-- The last word of the blocks, where there is one.
use Rattle.std.proofs.lemmas.Option.{unwrap_or-slice_get}
use Rattle.format.specs.Blocks.{no_object}
use Rattle.format.specs.Bytes.{undefined_address}
use Rattle.walk.proofs.Owners.{last-number}
use Rattle.walk.proofs.owner.last_owner.Goals as goal

pub returns : goal.returns
unfolding undefined_address
returns c = λ bs e. rw (c.unwrap_or.ensures, c.copied.ensures, c.last.ensures.value, unwrap_or-slice_get, e) (last-number no_object bs)
