-- The call of itself has less room: few blocks, and not few were given.
use Rattle.front_mend.proofs.+mend_in.Given as goal

abbrev pub decreases-mend_in : goal.decreases-mend_in
decreases-mend_in l = l.room
