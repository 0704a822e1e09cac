-- Demand 3, whole.
use Rattle.claims.specs.DemandThree.{DemandThree}
use Rattle.claims.proofs.MendNumber.{mend-number}
use Rattle.claims.proofs.Demand3Due.{demand-three-due}
use Rattle.claims.proofs.CDemandThree.{c-demand-three, c-demand-three-due}

pub demand-three-whole : DemandThree
demand-three-whole = record {
  numbers = mend-number;
  due = demand-three-due;
  done_in_c = λ im l g r n b z h k. (c-demand-three-due im l g r n b z h k).0;
  in_c = c-demand-three;
}
