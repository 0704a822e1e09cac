-- Demand 3, due for every image that the audit accepts and every log that holds its wrong counts.
use Prim.Native.Nat.{ℕ, ◌*◌, ◌≤◌}
use mathlib.Core.List.{List}
use mathlib.Core.Path.{◌≡◌, ap}
use Rattle.format.specs.Answers.{MendReply, audit}
use Rattle.demand.specs.Bytes.{IsBytes}
use Rattle.demand.proofs.MendDone.{mend-done}
use Rattle.demand.proofs.DemandThree.{demand-three}
use Rattle.claims.specs.Demand3.{wrong_counts, Demand3Due}
use Rattle.claims.proofs.MendNumber.{mend-number}

pub demand-three-due : (im : List ℕ) (lent log_lent n : ℕ) → IsBytes im → (audit im lent).number ≡ 0 → 2 * wrong_counts im lent ≤ log_lent →
    Demand3Due im lent log_lent n
demand-three-due im lent log_lent n b z l =
    let m = (mend-number im lent log_lent n).accepted z l in
    record {
      mended = m;
      entries = ap (λ (r : MendReply). r.entries) (mend-done im lent log_lent n m).reply;
      due = demand-three im lent log_lent n b m;
    }
