-- By its mark: a sharing gave its address, or none did yet.
use mathlib.Core.Path.{refl}
use Rattle.object.proofs.object.known.Goals as goal

pub returns-then-not-not_committed-clause-known : goal.returns-then-not-not_committed-clause-known
returns-then-not-not_committed-clause-known c = (rw c.if-not-not_committed.true at c.not_committed.ensures.known, refl)

pub returns-clause-known : goal.returns-clause-known
returns-clause-known c = rw c.if-not-not_committed.false at c.not_committed.ensures.known
