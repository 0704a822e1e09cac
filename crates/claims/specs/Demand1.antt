-- Demand 1: "Any bytes, any path, any undo log: every call ends, reads nothing beyond the image and gives one of the numbered answers. A
-- refusal returns zeros, leaves the image as it was, and every list lent for writing holds zeros." "Answer 6 now also returns the address
-- of the first block entered that it meets (in C the first word), the one exception to demand 1's zeros." What is said of the replies, for
-- all calls of the library and of C.
use Rattle.claims.specs.Answers.{Numbers}
use Rattle.claims.specs.Attained.{Attained, CAttained}
use Rattle.claims.specs.CNumbers.{CNumbers}
use Rattle.claims.specs.Zeros.{Zeros}

pub record Demand1 : Type 0 where
  pub numbers : Numbers
  pub attained : Attained
  pub attained_in_c : CAttained
  pub in_c : CNumbers
  pub zeros : Zeros
