-- The addresses of the objects in a list of words. Behind them stands their order, and behind that, in a longer list, a table of guesses.
use Rattle.std.specs.Prelude.{ℕ, ◌+◌, ◌*◌, ◌/◌, ◌%◌, ◌^◌, ◌≤◌, ◌<◌, List, ◌≡◌, leb, length, get_or, set, if◌then◌else◌, Option, Some, None}
use Rattle.format.specs.Limits.{objects_most}
use Rattle.ordering.specs.Order.{Ordering, words_from}
use Rattle.ordering.specs.declared.halving.Place.{Place}
use Rattle.ledger.specs.declared.search.Search.{Search}

-- the guesses, four for each object
abbrev pub guesses : ℕ
guesses = 4 * objects_most

-- the words of the addresses and of the order
abbrev pub index_words : ℕ
index_words = 2 * objects_most

-- all words: the addresses, the order, the guesses
abbrev pub table_words : ℕ
table_words = index_words + guesses

-- where the guess for an address stands; addresses that lie near each other have guesses of their own
unfoldable pub guess_at : ℕ → ℕ
guess_at address = index_words + (address / 8 + address / (8 * guesses)) % guesses

-- the list with an object as the guess for its address, where it has guesses
unfoldable pub with_guess : List ℕ → ℕ → ℕ → List ℕ
with_guess addresses address object = if leb table_words (length addresses) then set addresses (guess_at address) object else addresses

-- object o has a lower address than p
abbrev pub Lower : List ℕ → ℕ → ℕ → Type 0
Lower addresses o p = get_or addresses o 0 < get_or addresses p 0

-- the address of the k-th object in the order that begins at this word
abbrev pub address_in : List ℕ → ℕ → ℕ → ℕ
address_in addresses from k = get_or addresses (words_from addresses from k) 0

-- the numbers of n objects, in the order of their addresses, stand from this word on
pub record Sorted (addresses : List ℕ) (from n : ℕ) : Type 0 where
  pub inside : from + n ≤ length addresses
  pub ordering : Ordering (Lower addresses) (words_from addresses from) n

-- the objects in use, with their order, and room for all that there may be
pub record Indexed (addresses : List ℕ) (objects : ℕ) : Type 0 where
  pub fits : objects ≤ objects_most
  pub long : index_words ≤ length addresses
  pub ordering : Ordering (Lower addresses) (words_from addresses objects_most) objects

-- so many of n objects have a lower address, and the others don't
pub record Placed (addresses : List ℕ) (from n address place : ℕ) : Type 0 where
  pub most : place ≤ n
  pub before : (k : ℕ) → k < place → address_in addresses from k < address
  pub after : (k : ℕ) → place ≤ k → k < n → address ≤ address_in addresses from k

-- the place was found by halving, with a comparison for each time that the number of objects doubles
pub record Halving (addresses : List ℕ) (from n address : ℕ) (r : Place) : Type 0 where
  pub placed : Placed addresses from n address r.place
  pub tests : (m : ℕ) → n < 2 ^ m → r.tests ≤ m

-- the first of the objects in use that has the address, or none has it
abbrev pub Found : List ℕ → ℕ → ℕ → Option ℕ → Type 0
Found addresses objects address (Some object) =
    (object < objects) × (get_or addresses object 0 ≡ address) × ((k : ℕ) → k < object → get_or addresses k 0 ≡ address → ⊥)
Found addresses objects address None = (k : ℕ) → k < objects → get_or addresses k 0 ≡ address → ⊥

-- an object that has the address, if it is one in use
abbrev pub Guessed : List ℕ → ℕ → ℕ → Option ℕ → Type 0
Guessed addresses objects address (Some place) = (place < objects) × (get_or addresses place 0 ≡ address)
Guessed addresses objects address None = Unit {0}

-- What a search finds: the object with the address, or where a new one stands in the order. It compares an address for each time that the
-- number of objects doubles, and so many more.
pub record Sought (addresses : List ℕ) (objects address more : ℕ) (r : Search) : Type 0 where
  pub found : Found addresses objects address r.object
  pub placed : r.object ≡ None → Placed addresses objects_most objects address r.order
  pub tests : (m : ℕ) → objects < 2 ^ m → r.tests ≤ m + more

-- there is room for one object more, no object in use has its address, and so many of these have a lower one
pub record Addable (addresses : List ℕ) (objects address order : ℕ) : Type 0 where
  pub indexed : Indexed addresses objects
  pub room : objects < objects_most
  pub absent : (k : ℕ) → k < objects → get_or addresses k 0 ≡ address → ⊥
  pub placed : Placed addresses objects_most objects address order

-- One object more has its address and its place in the order. The words of the other objects are as they were, and so are those of
-- no object yet.
pub record Added (addresses : List ℕ) (objects address : ℕ) (addresses' : List ℕ) : Type 0 where
  pub indexed : Indexed addresses' (objects + 1)
  pub here : get_or addresses' objects 0 ≡ address
  pub kept : (k : ℕ) → k < objects_most → (k ≡ objects → ⊥) → get_or addresses' k 0 ≡ get_or addresses k 0
  pub long : length addresses' ≡ length addresses
