-- By where the datatype stands.
use Rattle.sharing.proofs.SharingLaws.{type-shared, type-own}
use Rattle.sharing.proofs.Found.share_type.Goals as goal

pub returns-in-Shared-clause-shared : goal.returns-in-Shared-clause-shared
returns-in-Shared-clause-shared c =
    rw c.in-Shared.is (type-shared _ _ _ _ _ _ _ _ _ c.share.ensures.shared)

pub returns-in-Own-clause-shared : goal.returns-in-Own-clause-shared
returns-in-Own-clause-shared c =
    rw c.in-Own.is (type-own _ _ _ _ _ _ _ _ c.requires)
