-- The superblock is the first block; then the table holds the root, and the objects are walked.
use mathlib.Core.Path.{refl}
use lib.ListN.{length}
use Rattle.format.specs.Limits.{objects_most}
use Rattle.object.proofs.ObjectLaws.{opened, room-lent}
use Rattle.audit.proofs.WalkLaws.{superblock-stopped, root-listed, objects-read, ends-so}
use native.Mathlib.Omega.{arith}
use Rattle.std.proofs.lemmas.Result.{err_from_is_err_and}
use Rattle.audit.proofs.walk_image.Goals as goal

pub enter_superblock-requires-clause-lent : goal.enter_superblock-requires-clause-lent
enter_superblock-requires-clause-lent c = room-lent c.args.list.now _ c.places.ensures

pub read-requires : goal.read-requires
unfolding objects_most
read-requires c = record {
  opened = opened c.args.image.now c.args.superblock _ (length c.args.list.now) c.places.ensures c.requires.bounded;
  listed = rw c.start.ensures.count
      (root-listed c.args.image.now c.args.list.now c.args.superblock _ c.places.ensures c.enter_superblock.new.blocks.words.now _
      c.enter_superblock.ensures.kept.long (c.in_ok-enter_superblock.ensures.walked c.args.image.now) _ _ _ _ _
      c.start.ensures.started refl c.requires.bounded.4 c.requires.bounded.3);
}

-- the list and the table end as the values that were lent over them
pub returns-in_err-enter_superblock : goal.returns-in_err-enter_superblock
returns-in_err-enter_superblock c =
    let p = err_from_is_err_and c.from_residual.result c.from_residual.ensures.1 in
    let h = superblock-stopped c.args.image.now c.args.list.now c.args.superblock _
    c.places.ensures c.enter_superblock.new.blocks.words.now c.args.addresses.now c.args.true_counts.now _
    (c.in_err-enter_superblock.ensures.walked c.args.image.now) in
    rw (p.1, p.2) (grind arith)

pub returns-in_err-read : goal.returns-in_err-read
unfolding objects_most
returns-in_err-read c =
    let p = err_from_is_err_and c.from_residual-in_err-read.result c.from_residual-in_err-read.ensures.1 in
    let h = objects-read c.args.image.now c.args.list.now c.args.superblock _ c.places.ensures c.enter_superblock.new.blocks.words.now _
    c.enter_superblock.ensures.kept.long (c.in_ok-enter_superblock.ensures.walked c.args.image.now) _ _ _ _ _
    c.start.ensures.started refl _ _ _ _ _ c.read.ensures.kept.long (rw c.start.ensures.count at c.in_err-read.ensures.walked) in
    rw (p.1, p.2) (grind arith)

pub returns : goal.returns
unfolding objects_most
returns c =
    let h = objects-read c.args.image.now c.args.list.now c.args.superblock _ c.places.ensures c.enter_superblock.new.blocks.words.now _
    c.enter_superblock.ensures.kept.long (c.in_ok-enter_superblock.ensures.walked c.args.image.now) _ _ _ _ _
    c.start.ensures.started refl _ _ _ _ _ c.read.ensures.kept.long (rw c.start.ensures.count at c.in_ok-read.ensures.walked) in
    ends-so (grind arith) (grind arith) (grind arith) (grind arith) h
