-- A test over all rows of a table, which antt computes, and what follows where it passes.
use Prim.Native.Nat.{ℕ}
use mathlib.Core.Bool.{Bool, true, false, ◌&&◌}
use mathlib.Core.List.{List, [], ◌∷◌, map}
use mathlib.Core.Path.{◌≡◌, refl}
use lib.Dec.{T, eqb, eqb→eq}
use Rattle.format.specs.Bytes.{same_bytes}
use Rattle.cases.specs.Table.{Case}

-- the two sides of every row are the same
abbrev pub agree : List Case → Bool
agree [] = true
agree (c ∷ cs) = same_bytes c.actual c.expected && agree cs

both : (a b : Bool) → T (a && b) → T a × T b
both true b h = (tt, h)
both false b h = absurd h

same-equal : (xs ys : List ℕ) → T (same_bytes xs ys) → xs ≡ ys
unfolding same_bytes
same-equal [] [] h = refl
same-equal [] (y ∷ ys) h = absurd h
same-equal (x ∷ xs) [] h = absurd h
same-equal (x ∷ xs) (y ∷ ys) h =
    let p : T (eqb x y) × T (same_bytes xs ys) = both (eqb x y) (same_bytes xs ys) h in
    let heads : x ≡ y = eqb→eq x y p.0 in
    let tails : xs ≡ ys = same-equal xs ys p.1 in
    cc

pub agree-equal : (cs : List Case) → T (agree cs) → map (λ (c : Case). c.actual) cs ≡ map (λ (c : Case). c.expected) cs
agree-equal [] h = refl
agree-equal (c ∷ cs) h =
    let p : T (same_bytes c.actual c.expected) × T (agree cs) = both (same_bytes c.actual c.expected) (agree cs) h in
    let first : c.actual ≡ c.expected = same-equal c.actual c.expected p.0 in
    let others : map (λ (c : Case). c.actual) cs ≡ map (λ (c : Case). c.expected) cs = agree-equal cs p.1 in
    cc
