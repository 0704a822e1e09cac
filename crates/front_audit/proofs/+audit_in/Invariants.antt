-- The call of itself has less room: few blocks, and not few were given.
use Rattle.front_audit.proofs.+audit_in.Given as goal

abbrev pub decreases-audit_in : goal.decreases-audit_in
decreases-audit_in l = l.room
