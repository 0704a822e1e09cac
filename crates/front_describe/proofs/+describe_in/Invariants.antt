-- The call of itself has less room: few blocks, and not few were given.
use Rattle.front_describe.proofs.+describe_in.Given as goal

abbrev pub decreases-describe_in : goal.decreases-describe_in
decreases-describe_in l = l.room
