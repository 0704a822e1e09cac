-- Disjoint blocks by number: one of two ends before the other begins, and each ends inside the end of file.
use Prim.Native.Nat.{ℕ, zero, suc, ◌+◌, ◌*◌, ◌≤◌, ◌<◌}
use mathlib.Core.List.{List, [], ◌∷◌}
use mathlib.Core.Logic.{◌⊎◌, inl, inr, ⊎_elim}
use mathlib.Core.Path.{◌≡◌}
use native.Mathlib.Omega.{arith}
use lib.ListN.{length}
use Rattle.format.specs.Blocks.{Block, owner_after, block_words}
use Rattle.block_index.specs.Index.{Before, start_of, behind_of}
use Rattle.laws.specs.Blocks.{Fresh, Inside}
use Rattle.laws.proofs.Disjoint.{Apart, apart_none, fresh-apart, fresh-after, apart-order}

-- block number k + 1 is block number k of those behind the first
module _ (o : ℕ) (b : Block) (bs : List Block) (k : ℕ) where
  start-next : start_of (block_words o (b ∷ bs)) (suc k) ≡ start_of (block_words (owner_after o b.kind) bs) k
  unfolding block_words
  start-next = let e : 4 * suc k ≡ suc (suc (suc (suc (4 * k)))) = omega arith in rw e

  behind-next : behind_of (block_words o (b ∷ bs)) (suc k) ≡ behind_of (block_words (owner_after o b.kind) bs) k
  unfolding block_words
  behind-next =
      let e : 4 * suc k ≡ suc (suc (suc (suc (4 * k)))) = omega arith in
      let e₁ : 4 * suc k + 1 ≡ suc (suc (suc (suc (4 * k + 1)))) = omega arith in
      rw (e₁, e)

-- a block, and those behind it that share no byte with it
first-apart : (o : ℕ) (b : Block) (bs : List Block) → Apart (b ∷ []) bs → (j : ℕ) → j < length bs →
    (behind_of (block_words o bs) j ≤ b.at) ⊎ (b.at + b.size ≤ start_of (block_words o bs) j)
unfolding block_words
first-apart o b [] h j l = absurd (omega arith)
first-apart o b (c ∷ cs) h zero l = apart-order b c.at c.size h.0
first-apart o b (c ∷ cs) h (suc j) l = rw (behind-next o c cs j, start-next o c cs j) (first-apart (owner_after o c.kind) b cs h.1 j (omega arith))

pub numbers_apart : (o : ℕ) (bs : List Block) → Fresh [] bs → (i j : ℕ) → i < j → j < length bs →
    Before (block_words o bs) i j ⊎ Before (block_words o bs) j i
unfolding block_words
numbers_apart o [] h i j l u = absurd (omega arith)
numbers_apart o (b ∷ bs) h i zero l u = absurd (omega arith)
numbers_apart o (b ∷ bs) h zero (suc j) l u =
    rw (behind-next o b bs j, start-next o b bs j)
    (⊎_elim (λ x. inr x) (λ x. inl x) (first-apart _ b bs (fresh-apart (b ∷ []) bs h.1) j (omega arith)))
numbers_apart o (b ∷ bs) h (suc i) (suc j) l u =
    rw (behind-next o b bs i, behind-next o b bs j, start-next o b bs i, start-next o b bs j)
    (numbers_apart (owner_after o b.kind) bs (fresh-after (b ∷ []) [] bs h.1 (apart_none bs)) i j (omega arith) (omega arith))

pub numbers-inside : (o eof : ℕ) (bs : List Block) → Inside eof bs → (b : ℕ) → b < length bs → behind_of (block_words o bs) b ≤ eof
unfolding block_words
numbers-inside o eof [] h b l = absurd (omega arith)
numbers-inside o eof (c ∷ cs) h zero l = h.0
numbers-inside o eof (c ∷ cs) h (suc b) l = rw (behind-next o c cs b) (numbers-inside (owner_after o c.kind) eof cs h.1 b (omega arith))
