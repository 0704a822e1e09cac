-- Demand 1, of all replies.
use Rattle.claims.specs.Demand1.{Demand1}
use Rattle.claims.proofs.Answers.{all-numbers}
use Rattle.claims.proofs.Attained.{attained, c-attained}
use Rattle.claims.proofs.CNumbers.{c-numbers}
use Rattle.claims.proofs.Zeros.{all-zeros}

pub demand-one : Demand1
demand-one = record { numbers = all-numbers; attained = attained; attained_in_c = c-attained; in_c = c-numbers; zeros = all-zeros }
