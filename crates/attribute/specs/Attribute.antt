-- What the attribute reader's answers mean.
use Rattle.std.specs.Prelude.{ℕ, ◌≤◌, List, [], ◌∷◌, ◌≡◌, Option, Some, None, Result, Ok, Err}
use Rattle.format.specs.Bytes.{u16}
use Rattle.format.specs.Result as reader
use Rattle.format.specs.Result.{value, answer}
use Rattle.format.specs.Attribute.{taken}

-- the address in a shared part
abbrev pub address_result : Result ℕ ℕ → reader.Result (List ℕ)
address_result (Ok address) = value (address ∷ [])
address_result (Err n) = answer n

-- the addresses that the attribute shares, one or none
abbrev pub attribute_result : Result (Option ℕ) ℕ → reader.Result (List ℕ)
attribute_result (Ok None) = value []
attribute_result (Ok (Some address)) = value (address ∷ [])
attribute_result (Err n) = answer n

-- the bytes that the part takes whose size stands at a place of the body; a size has two bytes
pub record Taken (b : List ℕ) (version at r : ℕ) : Type 0 where
  pub value : r ≡ taken version (u16 b at)
  pub bound : r ≤ 65542
