-- A list whose first words were lent and came back.
use Prim.Native.Nat.{ℕ, ◌≤◌}
use mathlib.Core.Path.{◌≡◌, ap, sym}
use mathlib.Core.List.{List, ◌++◌}
use native.Mathlib.Omega.{arith}
use lib.ListN.{length, take, drop, length-append, take-append-drop}
use lib.Seq.{take-append-le, length-take-le}

-- the list has the length that it had
pub part-back : (ys zs : List ℕ) (n : ℕ) → length ys ≡ length (take n zs) → length (ys ++ drop n zs) ≡ length zs
part-back ys zs n k =
    let whole : length (take n zs ++ drop n zs) ≡ length zs = ap length (take-append-drop n zs) in
    omega (arith, length-append ys (drop n zs), length-append (take n zs) (drop n zs))

-- The first m words of a list zs whose first n were lent and came back as ys.
pub record Back (ys zs : List ℕ) (n m : ℕ) : Type 0 where
  pub fits : m ≤ length (ys ++ drop n zs)
  pub long : m ≡ length (take m (ys ++ drop n zs))
  pub words : take m (ys ++ drop n zs) ≡ take m ys
  pub whole : length (ys ++ drop n zs) ≡ length zs

pub came-back : (ys zs : List ℕ) (n m : ℕ) → length ys ≡ length (take n zs) → m ≤ length ys → Back ys zs n m
came-back ys zs n m k h =
    let fits : m ≤ length (ys ++ drop n zs) = omega (arith, length-append ys (drop n zs)) in
    record {
      fits = fits;
      long = sym (length-take-le m (ys ++ drop n zs) fits);
      words = take-append-le m ys (drop n zs) h;
      whole = part-back ys zs n k;
    }
