-- Big-endian numbers. Those of one width are ordered as their bytes are.
use Rattle.std.specs.Prelude.{ℕ, zero, suc, ◌+◌, ◌*◌, ◌^◌, ◌<◌, ◌≡◌, List, [], ◌∷◌, length}
use Rattle.format.specs.Bytes.{part}

-- the number whose bytes these are, the highest first
unfoldable pub big_endian : List ℕ → ℕ
big_endian [] = 0
big_endian (x ∷ xs) = 256 ^ length xs * x + big_endian xs

-- the number of the first n bytes, with zeros for those that aren't there
unfoldable pub first_number : ℕ → List ℕ → ℕ
first_number zero s = 0
first_number (suc n) [] = 0
first_number (suc n) (x ∷ xs) = 256 ^ n * x + first_number n xs

-- r is the number whose bytes are the n bytes of s from at on
pub record BigEndian (s : List ℕ) (at n r : ℕ) : Type 0 where
  pub value : r ≡ big_endian (part s at n)
  pub bound : r < 256 ^ n
