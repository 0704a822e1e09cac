-- What the index says of a new block is what the list of all blocks says.
use Prim.Native.Nat.{ℕ, zero, suc, ◌+◌, ◌*◌, ◌<◌}
use mathlib.Core.Bool.{true, false, or-true}
use mathlib.Core.List.{List}
use mathlib.Core.Path.{◌≡◌, refl, ◌∙◌}
use native.Mathlib.Omega.{arith}
use lib.ListN.{drop}
use lib.Seq.{get_or-drop}
use Rattle.format.specs.Blocks.{overlaps, overlaps_any, first_met}
use Rattle.block_index.specs.Index.{Meets, Apart, start_of, size_of}
use Rattle.block_index.specs.Search.{FirstMet}
use Rattle.walk.specs.Lent.{blocks_of}

-- block number b + 1 is block number b of the words behind the first four
module _ (ws : List ℕ) (b : ℕ) where
  start-behind : start_of (drop 4 ws) b ≡ start_of ws (suc b)
  start-behind = let e : 4 * suc b ≡ 4 + 4 * b = omega arith in rw (get_or-drop, e)

  size-behind : size_of (drop 4 ws) b ≡ size_of ws (suc b)
  size-behind = let e : 4 * suc b + 1 ≡ 4 + (4 * b + 1) = omega arith in rw (get_or-drop, e)

module _ (a n : ℕ) where
  apart-behind : (ws : List ℕ) (b : ℕ) → Apart ws (suc b) a n → Apart (drop 4 ws) b a n
  apart-behind ws b h = rw (start-behind ws b, size-behind ws b) h

  -- a new block that each of the blocks is apart from
  pub all_apart : (c : ℕ) (ws : List ℕ) → ((b : ℕ) → b < c → Apart ws b a n) → overlaps_any (blocks_of c ws) a n ≡ false
  unfolding blocks_of overlaps_any overlaps
  all_apart zero ws h = refl
  all_apart (suc c) ws h = simp (h 0 (omega arith), all_apart c (drop 4 ws) (λ b l. apart-behind ws b (h (suc b) (omega arith))))

  -- a new block that meets one, and the first of those that it meets
  first-is : (c : ℕ) (ws : List ℕ) (b : ℕ) → b < c → Meets ws b a n → ((k : ℕ) → k < b → Apart ws k a n) →
      (overlaps_any (blocks_of c ws) a n ≡ true) × (first_met (blocks_of c ws) a n ≡ start_of ws b)
  unfolding blocks_of overlaps_any first_met overlaps
  first-is zero ws b h m e = absurd (omega arith)
  first-is (suc c) ws zero h m e = (simp m, simp m)
  first-is (suc c) ws (suc b) h m e =
      let z = e 0 (omega arith) in
      let r = first-is c (drop 4 ws) b (omega arith) (rw (start-behind ws b, size-behind ws b) m) (λ k l. apart-behind ws k (e (suc k) (omega arith))) in
      (simp (z, r.0), simp z (r.1 ∙ start-behind ws b))

  pub one-met : (c : ℕ) (ws : List ℕ) (b : ℕ) → b < c → Meets ws b a n → overlaps_any (blocks_of c ws) a n ≡ true
  unfolding blocks_of overlaps_any overlaps
  one-met zero ws b h m = absurd (omega arith)
  one-met (suc c) ws zero h m = simp m
  one-met (suc c) ws (suc b) h m = simp (one-met c (drop 4 ws) b (omega arith) (rw (start-behind ws b, size-behind ws b) m), or-true)

  pub met-first : (c : ℕ) (ws : List ℕ) (b : ℕ) → FirstMet ws c a n b →
      (overlaps_any (blocks_of c ws) a n ≡ true) × (first_met (blocks_of c ws) a n ≡ start_of ws b)
  met-first c ws b f = first-is c ws b f.among f.met f.earlier
