-- By the mark of the place.
use Rattle.sharing.proofs.SharingLaws.{kind-shared, kind-marked}
use Rattle.sharing.proofs.Found.not_committed.Goals as goal

pub returns-then-shared-clause-known : goal.returns-then-shared-clause-known
returns-then-shared-clause-known c = kind-shared _ _ c.if-shared.true

pub returns-clause-known : goal.returns-clause-known
returns-clause-known c = kind-marked _ _ c.if-shared.false
