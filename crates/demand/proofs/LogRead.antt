-- The log of a mend, read back by an undo.
use Prim.Native.Nat.{ℕ, zero, suc, ◌+◌, ◌*◌, ◌/◌, ◌%◌, ◌^◌, ◌≤◌}
use mathlib.Core.Bool.{Bool, true, false, ◌&&◌, ◌||◌}
use mathlib.Core.List.Memᴰ
use mathlib.Core.List.{List, [], ◌∷◌, ◌++◌}
use mathlib.Core.Path.{◌≡◌, refl}
use native.Mathlib.Omega.{arith}
use borrow.Author.Tests.{eqb-true}
use lib.ListN.{length, get_or, take, replicate, length-append, length-replicate}
use lib.Dec.{eqb, leb}
use Rattle.format.specs.Bytes.{u32, padded}
use Rattle.format.specs.Log.{Change, log_words, changes}
use Rattle.format.specs.Undo.{fits, all_fit}
use Rattle.demand.specs.Fields.{Small}

small-rest : (c : Change) (cs : List Change) → Small (c ∷ cs) → Small cs
small-rest c cs s = record { old = λ d m. s.old d (Memᴰ.tail m); new = λ d m. s.new d (Memᴰ.tail m) }

log-length : (cs : List Change) → length (log_words cs) ≡ 2 * length cs
unfolding log_words
log-length [] = refl
log-length (c ∷ cs) = omega (arith, log-length cs)

pub padded-length : (log_lent : ℕ) (cs : List Change) → 2 * length cs ≤ log_lent → length (padded log_lent (log_words cs)) ≡ log_lent
padded-length log_lent cs h = simp (length-append, length-replicate) (omega (arith, log-length cs))

-- the first e entries of the log are the first e changes
log-read : (cs : List Change) (rest : List ℕ) → Small cs → (e : ℕ) → e ≤ length cs → changes e (log_words cs ++ rest) ≡ take e cs
unfolding changes log_words
log-read cs rest s zero h = refl
log-read [] rest s (suc e) h = absurd (omega arith)
log-read (c ∷ cs) rest s (suc e) h =
    let o = s.old c (Memᴰ.head refl) in
    let n = s.new c (Memᴰ.head refl) in
    let high : (c.old * 2 ^ 32 + c.new) / 2 ^ 32 ≡ c.old = omega arith in
    let low : (c.old * 2 ^ 32 + c.new) % 2 ^ 32 ≡ c.new = omega arith in
    rw (high, low, log-read cs rest (small-rest c cs s) e (omega arith))

pub log-first : (log_lent : ℕ) (cs : List Change) → Small cs → (e : ℕ) → e ≤ length cs → changes e (padded log_lent (log_words cs)) ≡ take e cs
log-first log_lent cs s e h = log-read cs _ s e h

and_first : (t u : Bool) → (t && u) ≡ true → t ≡ true
and_first true u e = refl
and_first false u e = e

and_second : (t u : Bool) → (t && u) ≡ true → u ≡ true
and_second true u e = e
and_second false u e = let z : ◌≡◌ {A = ℕ} 0 1 = cc in absurd (omega arith)

or_same : (t : Bool) → (t || t) ≡ true → t ≡ true
or_same true e = refl
or_same false e = e

abbrev zeros : ℕ → List ℕ
zeros n = replicate n 0

pub zero-at : (n k : ℕ) → get_or (zeros n) k 0 ≡ 0
zero-at zero k = refl
zero-at (suc n) zero = refl
zero-at (suc n) (suc k) = zero-at n k

all-fit : (im : List ℕ) (c : Change) (cs : List Change) → all_fit im (c ∷ cs) ≡ true → (fits im c ≡ true) × (all_fit im cs ≡ true)
unfolding all_fit
all-fit im c cs h = (and_first (fits im c) (all_fit im cs) h, and_second (fits im c) (all_fit im cs) h)

-- an entry of zeros fits only where the first four bytes are zeros
zero-fits : (im : List ℕ) (a w : ℕ) → a ≡ 0 → w ≡ 0 → fits im (record { field = a; old = w / 2 ^ 32; new = w % 2 ^ 32 }) ≡ true → u32 im 0 ≡ 0
unfolding fits
zero-fits im a w i j h =
    let fit = rw (i, j) at h in
    eqb-true (u32 im 0) 0 (or_same (eqb (u32 im 0) 0) (and_second (leb 4 (length im)) _ fit))

-- behind the entries there are zeros, which fit no image that begins with four other bytes
pub log-fits : (im : List ℕ) → (u32 im 0 ≡ 0 → ⊥) → (cs : List Change) (n e : ℕ) → all_fit im (changes e (log_words cs ++ zeros n)) ≡ true → e ≤ length cs
unfolding changes log_words
log-fits im first cs n zero h = omega arith
log-fits im first [] n (suc e) h = absurd (first (zero-fits im (get_or (zeros n) 0 0) (get_or (zeros n) 1 0) (zero-at n 0) (zero-at n 1) (all-fit im _ _ h).0))
log-fits im first (c ∷ cs) n (suc e) h = omega (arith, log-fits im first cs n e (all-fit im _ _ h).1)
