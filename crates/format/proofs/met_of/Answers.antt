-- A fault meets no block; the other case holds the one met.
use borrow.Author.Rules.{rules}
use Rattle.format.proofs.met_of.Goals as goal

pub returns-in-Fault : goal.returns-in-Fault
returns-in-Fault c = rw c.in-Fault.is

pub returns-in-NotEntered : goal.returns-in-NotEntered
returns-in-NotEntered c = rw c.in-NotEntered.is
