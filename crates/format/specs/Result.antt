-- What a reader makes of a part of a block. "A message body is handed to its reader as a part of the image and no reader sees beyond it": the
-- same holds for a message, a key, an entry and a free list. Such a reader enters no block, and its faults have no place of their own.
use Rattle.std.specs.Prelude.{ℕ, Bool, true, false}

-- value a: the part is sound, and it says a.
-- answer n: the answer to the first fault in it. Who hands over the part says where it stands (`located`).
pub data Result (A : Type 0) : Type 0 where
  value : A → Result A
  answer : ℕ → Result A

infixl 20 ◌>>=◌
infixl 20 ◌>>◌
unfoldable pub ◌>>=◌ : {A B : Type 0} → Result A → (A → Result B) → Result B
value a >>= f = f a
answer n >>= f = answer n

abbrev pub ◌>>◌ : {A B : Type 0} → Result A → Result B → Result B
r >> s = r >>= λ _. s

-- the test holds, else the answer n
abbrev pub check : Bool → ℕ → Result (Unit {0})
check true n = value tt
check false n = answer n
