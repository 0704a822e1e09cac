-- The whole list is lent, with no block entered.
use lib.ListN.{length}
use Rattle.object.proofs.ObjectLaws.{opened, room-lent}
use Rattle.follow.proofs.find_object.Goals as goal

pub follow-requires : goal.follow-requires
follow-requires c = record {
  opened = opened c.args.image.now c.args.superblock _ (length c.args.list.now) c.places.ensures c.requires.bounded;
  lent = room-lent c.args.list.now _ c.places.ensures;
  in_bounds = c.requires.in_bounds;
}

pub returns : goal.returns
returns c = rw (← c.places.ensures) c.follow.ensures
