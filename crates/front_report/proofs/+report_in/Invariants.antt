-- The call of itself has less room: few blocks, and not few were given.
use Rattle.front_report.proofs.+report_in.Given as goal

abbrev pub decreases-report_in : goal.decreases-report_in
decreases-report_in l = l.room
