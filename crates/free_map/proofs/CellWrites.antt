-- Cells that are written: a run of whole ones, and those of a free block.
use Prim.Native.Nat.{ℕ, ◌+◌, ◌*◌, ◌-◌, ◌/◌, ◌%◌, ◌≤◌, ◌<◌}
use mathlib.Core.List.{List}
use mathlib.Core.Path.{◌≡◌, ap, ◌∙◌}
use native.Mathlib.Omega.{arith}
use lib.ListN.{length, get_or, set, length-set}
use lib.Seq.{get_or-set_same, get_or-set_other}
use Rattle.free_map.specs.FreeMap.{free_start, free_end}
use Rattle.free_map.specs.Cells.{joined_cell, Filled}

-- the cells of a map after the block at off was made free
pub record Written (map : List ℕ) (off size : ℕ) (map' : List ℕ) : Type 0 where
  pub below : (k : ℕ) → k < off / 16 → get_or map' k 0 ≡ get_or map k 0
  pub first : get_or map' (off / 16) 0 ≡ joined_cell (free_start (get_or map (off / 16) 0)) (16 - off % 16)
  pub whole : (k : ℕ) → off / 16 < k → k < (off + size) / 16 → get_or map' k 0 ≡ 16
  pub last : 0 < (off + size) % 16 →
      get_or map' ((off + size) / 16) 0 ≡ joined_cell ((off + size) % 16) (free_end (get_or map ((off + size) / 16) 0))
  pub above : (k : ℕ) → off + size ≤ 16 * k → get_or map' k 0 ≡ get_or map k 0

-- the cells after the writes: the first cell, whole cells, and the last one where the block ends inside it
module _ (map : List ℕ) {map₁ map₂ : List ℕ} (off size : ℕ) (w : 16 ≤ size) (l : off / 16 < length map)
    (e : map₁ ≡ set map (off / 16) (joined_cell (free_start (get_or map (off / 16) 0)) (16 - off % 16)))
    (f : Filled map₁ (off / 16 + 1) ((off + size) / 16) map₂) where
  other : (k : ℕ) → (k ≡ off / 16 → ⊥) → get_or map₁ k 0 ≡ get_or map k 0
  other k n = rw e (get_or-set_other map (off / 16) k _ 0 n)

  filled-first : get_or map₂ (off / 16) 0 ≡ joined_cell (free_start (get_or map (off / 16) 0)) (16 - off % 16)
  filled-first = f.below (off / 16) (omega arith) ∙ rw e (get_or-set_same map (off / 16) _ 0 l)

  filled-above : (k : ℕ) → (off + size) / 16 ≤ k → get_or map₂ k 0 ≡ get_or map k 0
  filled-above k h = f.above k h ∙ other k (λ q. omega arith)

  pub filled-long : length map₂ ≡ length map
  filled-long = f.long ∙ ap length e ∙ simp length-set

  pub written-whole : (off + size) % 16 ≡ 0 → Written map off size map₂
  written-whole z = record {
    below = λ k h. f.below k (omega arith) ∙ other k (λ q. omega arith);
    first = filled-first;
    whole = λ k h g. f.whole k (omega arith) g;
    last = λ h. absurd (omega arith);
    above = λ k h. filled-above k (omega arith);
  }

  pub written_last : {map₃ : List ℕ} → map₃ ≡ set map₂ ((off + size) / 16) (joined_cell ((off + size) % 16) (free_end (get_or map₂ ((off + size) / 16) 0))) →
      (off + size) / 16 < length map₂ → 0 < (off + size) % 16 → Written map off size map₃
  written_last {map₃} q g p = record {
    below = λ k h. kept k (λ z. omega arith) ∙ f.below k (omega arith) ∙ other k (λ z. omega arith);
    first = kept (off / 16) (λ z. omega arith) ∙ filled-first;
    whole = λ k h i. kept k (λ z. omega arith) ∙ f.whole k (omega arith) i;
    last = λ h. rw (q, get_or-set_same map₂ ((off + size) / 16) _ 0 g, filled-above ((off + size) / 16) (omega arith));
    above = λ k h. kept k (λ z. omega arith) ∙ filled-above k (omega arith);
  }
    where
      kept : (k : ℕ) → (k ≡ (off + size) / 16 → ⊥) → get_or map₃ k 0 ≡ get_or map₂ k 0
      kept k n = rw q (get_or-set_other map₂ ((off + size) / 16) k _ 0 n)
