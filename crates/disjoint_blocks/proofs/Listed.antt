-- A list of the values of a function, and the four parts of a working list.
use Prim.Native.Nat.{ℕ, zero, suc, ◌+◌, ◌-◌, ◌*◌, ◌≤◌, ◌<◌}
use mathlib.Core.List.{List, [], ◌∷◌, ◌++◌, append_assoc}
use mathlib.Core.Path.{◌≡◌, refl, ap, ◌∙◌}
use native.Mathlib.Omega.{arith}
use lib.ListN.{length, get_or, take, replicate, length-append, length-replicate, get_or-append}
use lib.Seq.{get_or-append-add, take_at}
use Rattle.walk.specs.Lent.{work_words}

-- the values of f below n
unfoldable pub listed : ℕ → (ℕ → ℕ) → List ℕ
listed zero f = []
listed (suc n) f = f 0 ∷ listed n (λ k. f (suc k))

length-listed : (n : ℕ) (f : ℕ → ℕ) → length (listed n f) ≡ n
unfolding listed
length-listed zero f = refl
length-listed (suc n) f = ap suc (length-listed n (λ k. f (suc k)))

listed_at : (n : ℕ) (f : ℕ → ℕ) (k : ℕ) → k < n → get_or (listed n f) k 0 ≡ f k
unfolding listed
listed_at zero f k h = absurd (omega arith)
listed_at (suc n) f zero h = refl
listed_at (suc n) f (suc k) h = listed_at n (λ i. f (suc i)) k (omega arith)

-- the words behind the first n
words-behind : (xs ys : List ℕ) (n k : ℕ) → length xs ≡ n → get_or (xs ++ ys) (n + k) 0 ≡ get_or ys k 0
words-behind xs ys n k e = rw (← e) (get_or-append-add xs ys k 0)

-- words of a list that begins with the n values of f
words-listed : (n : ℕ) (f : ℕ → ℕ) (ys : List ℕ) (k : ℕ) → k < n → get_or (listed n f ++ ys) k 0 ≡ f k
words-listed n f ys k h = get_or-append (listed n f) ys 0 k (rw length-listed h) ∙ listed_at n f k h

-- the words of blocks, with room for more, and then the numbers f and g and the places p
module _ (words : List ℕ) (room : ℕ) (f g p : ℕ → ℕ) where
  abbrev front : List ℕ
  front = words ++ replicate (4 * room - length words) 0

  abbrev index : List ℕ
  index = listed room f ++ (listed 64 g ++ listed 64 p)

  unfoldable pub working : List ℕ
  working = front ++ index

  module _ (fits : length words ≤ 4 * room) where
    front_length : length front ≡ 4 * room
    front_length = rw (length-append, length-replicate) (omega arith)

    pub length-working : length working ≡ work_words room
    unfolding working
    length-working =
        length-append front index
        ∙ omega (
          arith,
          front_length,
          length-append (listed room f) (listed 64 g ++ listed 64 p),
          length-append (listed 64 g) (listed 64 p),
          length-listed room f,
          length-listed 64 g,
          length-listed 64 p,
        )

    pub working-words : take (length words) working ≡ words
    unfolding working
    working-words = rw append_assoc (take_at words (replicate (4 * room - length words) 0 ++ index) (length words) refl)

    pub working-first : (k : ℕ) → k < room → get_or working (4 * room + k) 0 ≡ f k
    unfolding working
    working-first k h = words-behind front index (4 * room) k front_length ∙ words-listed room f _ k h

    behind-first : (k : ℕ) → get_or working (4 * room + (room + k)) 0 ≡ get_or (listed 64 g ++ listed 64 p) k 0
    unfolding working
    behind-first k = words-behind front index (4 * room) (room + k) front_length ∙ words-behind (listed room f) _ room k (length-listed room f)

    pub working-second : (k : ℕ) → k < 64 → get_or working (5 * room + k) 0 ≡ g k
    working-second k h = let e : 5 * room + k ≡ 4 * room + (room + k) = omega arith in rw e (behind-first k ∙ words-listed 64 g _ k h)

    pub working-places : (k : ℕ) → k < 64 → get_or working (5 * room + 64 + k) 0 ≡ p k
    working-places k h =
        let e : 5 * room + 64 + k ≡ 4 * room + (room + (64 + k)) = omega arith in
        rw e (behind-first (64 + k) ∙ words-behind (listed 64 g) _ 64 k (length-listed 64 g) ∙ listed_at 64 p k h)
