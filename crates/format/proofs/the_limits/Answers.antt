-- Each constant computes to the limit of its name.
use mathlib.Core.Path.{refl}
use Rattle.format.specs.Limits.{image_least, image_most, input_most, level_most, rank_most, objects_most, blocks_most, command_blocks, name_most, path_most}
use Rattle.format.proofs.the_limits.Goals as goal

pub returns : goal.returns
unfolding image_least image_most input_most level_most rank_most objects_most blocks_most command_blocks name_most path_most
returns c = record {
  image_least_equal = refl;
  image_most_equal = refl;
  input_most_equal = refl;
  level_most_equal = refl;
  rank_most_equal = refl;
  objects_most_equal = refl;
  blocks_most_equal = refl;
  command_blocks_equal = refl;
  name_most_equal = refl;
  path_most_equal = refl;
}
