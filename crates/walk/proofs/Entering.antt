-- A block written behind the others, and put into the index.
use Prim.Native.Nat.{ℕ, ◌+◌, ◌*◌, ◌^◌, ◌≤◌, ◌<◌}
use mathlib.Core.Bool.{false}
use mathlib.Core.List.{List}
use mathlib.Core.Path.{◌≡◌, sym, ◌∙◌}
use native.Mathlib.Omega.{arith}
use lib.ListN.{length, get_or, take, set, length-set}
use lib.Seq.{get_or-set_same, get_or-set_other, get_or-take, ext_get_or, length-take-le}
use Rattle.block_index.specs.Index.{start_of, size_of, first_from}
use Rattle.block_index.specs.Search.{FoundIn, Addable, Extended}
use Rattle.block_index.specs.declared.index.Found.{Found}
use Rattle.block_index.proofs.IndexLaws.{indexed-same, placed-first-same, placed-second-same}
use Rattle.walk.specs.Lent.{Lent, Added, with_four, appended}
use Rattle.walk.proofs.Owners.{four-other}

-- four words written: those before them, and the first two
module _ (ws : List ℕ) (k a n v o : ℕ) (h : k + 4 ≤ length ws) where
  four-before : (i : ℕ) → i < k → get_or (with_four ws k a n v o) i 0 ≡ get_or ws i 0
  four-before i l =
      get_or-set_other (set (set (set ws k a) (k + 1) n) (k + 2) v) (k + 3) i o 0 (λ e. omega (arith, e))
      ∙ get_or-set_other (set (set ws k a) (k + 1) n) (k + 2) i v 0 (λ e. omega (arith, e))
      ∙ get_or-set_other (set ws k a) (k + 1) i n 0 (λ e. omega (arith, e))
      ∙ get_or-set_other ws k i a 0 (λ e. omega (arith, e))

  four-first : get_or (with_four ws k a n v o) k 0 ≡ a
  four-first =
      get_or-set_other (set (set (set ws k a) (k + 1) n) (k + 2) v) (k + 3) k o 0 (λ e. omega (arith, e))
      ∙ get_or-set_other (set (set ws k a) (k + 1) n) (k + 2) k v 0 (λ e. omega (arith, e))
      ∙ get_or-set_other (set ws k a) (k + 1) k n 0 (λ e. omega (arith, e))
      ∙ get_or-set_same ws k a 0 (omega arith)

  four-second : get_or (with_four ws k a n v o) (k + 1) 0 ≡ n
  four-second =
      get_or-set_other (set (set (set ws k a) (k + 1) n) (k + 2) v) (k + 3) (k + 1) o 0 (λ e. omega (arith, e))
      ∙ get_or-set_other (set (set ws k a) (k + 1) n) (k + 2) (k + 1) v 0 (λ e. omega (arith, e))
      ∙ get_or-set_same (set ws k a) (k + 1) n 0 (simp length-set (omega arith))

-- A new block that meets none, written behind the others.
module _ (ws : List ℕ) (c room kind a n : ℕ) (l : Lent ws c room) (h : c < room) where
  abbrev ws₁ : List ℕ
  ws₁ = appended ws c kind a n

  written : 4 * c + 4 ≤ length ws
  written = omega (arith, l.lent)

  long : length ws₁ ≡ length ws
  long = simp length-set

  low : (k : ℕ) → k < 4 * c → get_or ws₁ k 0 ≡ get_or ws k 0
  low k u = four-before ws (4 * c) a n kind _ written k u

  high : (k : ℕ) → first_from (length ws) ≤ k → get_or ws₁ k 0 ≡ get_or ws k 0
  high k u = four-other ws (4 * c) k a n kind _ (omega (arith, l.lent))

  start : start_of ws₁ c ≡ a
  start = four-first ws (4 * c) a n kind _ written

  size : size_of ws₁ c ≡ n
  size = four-second ws (4 * c) a n kind _ written

  -- its places are those that were found for it
  pub addable : a + n < 2 ^ 64 → (r : Found) → FoundIn ws c a n r → r.met ≡ false → Addable ws₁ c r.first r.second
  addable small r f none = record {
    indexed = indexed-same ws ws₁ c l.indexed long low high;
    room = omega (arith, l.lent, long);
    small = omega (arith, start, size);
    first_place = rw start (placed-first-same ws ws₁ c l.indexed long low high a r.first f.first);
    second_place = rw start (placed-second-same ws ws₁ c l.indexed long low high a r.second f.second);
    apart = λ b u. rw (start, size, low (4 * b) (omega arith), low (4 * b + 1) (omega arith)) (f.apart none b u);
  }

  -- put into the index it is entered
  pub put : (ws₂ : List ℕ) → Extended ws₁ c ws₂ → Added ws c kind a n ws₂
  put ws₂ x = record { head = ext_get_or 0 _ _ same each; indexed = x.indexed; long = x.long ∙ long }
    where
      inside : first_from (length ws) ≤ length ws
      inside = omega arith

      same : length (take (first_from (length ws)) ws₂) ≡ length (take (first_from (length ws)) ws₁)
      same =
          length-take-le (first_from (length ws)) ws₂ (omega (arith, x.long, long, inside))
          ∙ sym (length-take-le (first_from (length ws)) ws₁ (omega (arith, long, inside)))

      each : (i : ℕ) → i < length (take (first_from (length ws)) ws₂) →
          get_or (take (first_from (length ws)) ws₂) i 0 ≡ get_or (take (first_from (length ws)) ws₁) i 0
      each i u =
          let few = length-take-le (first_from (length ws)) ws₂ (omega (arith, x.long, long, inside)) in
          get_or-take (first_from (length ws)) ws₂ i 0 (omega (arith, few)) ∙ x.kept i (rw long (omega (arith, few)))
          ∙ sym (get_or-take (first_from (length ws)) ws₁ i 0 (omega (arith, few)))
