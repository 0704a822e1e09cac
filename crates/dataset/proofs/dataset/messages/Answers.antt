-- The layout's reader stands for its walk; the product comes last.
use Prim.Native.Nat.{ℕ, ◌-◌}
use mathlib.Core.Path.{◌≡◌, refl, ap, sym, ◌∙◌}
use native.Mathlib.Omega.{arith}
use Rattle.std.specs.Prelude.{Ok, Err}
use Rattle.std.proofs.lemmas.Result.{err_from_is_err_and}
use Rattle.format.specs.Walk.{fault, located}
use Rattle.laws.proofs.Checks.{passes, fails, gives, refuses}
use Rattle.dataset.specs.Dataset.{layout_walk}
use Rattle.dataset.proofs.dataset.messages.Goals as goal

pub filled-requires : goal.filled-requires
filled-requires c = record { space_inside = c.requires.space_inside; sizes_inside = c.requires.shaped.1 }

pub returns-in_err-layout : goal.returns-in_err-layout
unfolding layout_walk
returns-in_err-layout c =
    let p = err_from_is_err_and c.from_residual.result c.from_residual.ensures.1 in
    let f : (n : ℕ) × (c.read_layout.result ≡ Err n) × (c.in_err-layout.field-0.0 ≡ fault n (c.args.bodies.layout.place - 8)) = grind arith in
    rw (p.1, p.2, f.2) (record {
      result_value = refuses _ (ap (located _) (rw f.1 at c.read_layout.ensures));
      dataset_shaped = tt;
    })

pub returns-then-not-filled : goal.returns-then-not-filled
unfolding layout_walk
returns-then-not-filled c =
    let f : c.read_layout.result ≡ Ok c.in_ok-layout.layout = grind arith in
    record {
      result_value = rw c.head_of.ensures
          (gives _ (ap (located _) (rw f at c.read_layout.ensures)) (fails _ _ (sym c.filled.ensures ∙ c.if-not-filled.true)));
      dataset_shaped = tt;
    }

pub returns : goal.returns
unfolding layout_walk
returns c =
    let f : c.read_layout.result ≡ Ok c.in_ok-layout.layout = grind arith in
    record {
      result_value = gives _ (ap (located _) (rw f at c.read_layout.ensures)) (passes _ _ (sym c.filled.ensures ∙ c.if-not-filled.false) refl);
      dataset_shaped = c.requires.shaped;
    }
