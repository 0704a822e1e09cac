-- The new message is the first, or comes behind it.
use native.Mathlib.Omega.{arith}
use Rattle.tally.proofs.TallyLaws.{first-new, first-again}
use Rattle.tally.proofs.one_more.Goals as goal

pub returns-in-Absent : goal.returns-in-Absent
returns-in-Absent c = λ im ms type p i. first-new im ms type _ p (rw c.in-Absent.is at i)

pub returns-in-Once : goal.returns-in-Once
returns-in-Once c = λ im ms type p i. let f = rw c.in-Once.is at i in first-again im ms type _ _ (omega (arith, f.0)) f.1 f.2

pub returns-in-Repeated : goal.returns-in-Repeated
returns-in-Repeated c = λ im ms type p i. let f = rw c.in-Repeated.is at i in first-again im ms type _ _ (omega (arith, f.0)) f.1 f.2
