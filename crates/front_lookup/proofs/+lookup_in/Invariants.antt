-- The call of itself has less room: few blocks, and not few were given.
use Rattle.front_lookup.proofs.+lookup_in.Given as goal

abbrev pub decreases-lookup_in : goal.decreases-lookup_in
decreases-lookup_in l = l.room
