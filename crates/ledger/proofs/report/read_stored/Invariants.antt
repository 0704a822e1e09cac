-- The counts before i are read; each turn reads one more.
use Rattle.ledger.specs.Report.{StoredRead}
use Rattle.ledger.proofs.report.read_stored.Given as goal

abbrev pub invariant-loop-i : goal.invariant-loop-i
invariant-loop-i l = StoredRead l.image l.addresses l.i l.initial.stored l.stored
