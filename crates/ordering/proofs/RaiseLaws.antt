-- Raising words one at a time, the last first: what is raised from i on stays so with the word before i raised too.
use Prim.Native.Nat.{ℕ, ◌+◌, ◌-◌, ◌≤◌, ◌<◌}
use mathlib.Core.List.{List}
use mathlib.Core.Logic.{⊎_elim}
use mathlib.Core.Path.{◌≡◌, refl, ◌∙◌}
use native.Mathlib.Omega.{arith}
use native.Mathlib.Nat.{eq-or-lt_of_le}
use lib.ListN.{length, get_or, set, length-set}
use lib.Seq.{get_or-set_same, get_or-set_other}
use Rattle.ordering.specs.Merge.{Raised}

pub raised-none : (ws : List ℕ) (last by : ℕ) → Raised ws last last by ws
raised-none ws last by = record { below = λ k h. refl; moved = λ k h l. absurd (omega arith); rest = λ k h. refl; long = refl }

pub raised-more : (ws ws' : List ℕ) (i last by : ℕ) → last + by ≤ length ws → 0 < i → i ≤ last → Raised ws i last by ws' →
    Raised ws (i - 1) last by (set ws' (i - 1 + by) (get_or ws' (i - 1) 0))
raised-more ws ws' i last by fits some few r = record {
  below = λ k h. get_or-set_other ws' (i - 1 + by) k _ 0 (λ e. omega (arith, e)) ∙ r.below k (omega arith);
  moved = λ k h l.
      ⊎_elim
      (λ (e : i - 1 ≡ k).
      rw (← e, get_or-set_same ws' (i - 1 + by) (get_or ws' (i - 1) 0) 0 (omega (arith, r.long))) (r.below (i - 1) (omega arith)))
      (λ (g : i - 1 < k). get_or-set_other ws' (i - 1 + by) (k + by) _ 0 (λ e. omega (arith, e)) ∙ r.moved k (omega arith) l)
      (eq-or-lt_of_le h);
  rest = λ k h. get_or-set_other ws' (i - 1 + by) k _ 0 (λ e. omega (arith, e)) ∙ r.rest k h;
  long = simp length-set r.long;
}
