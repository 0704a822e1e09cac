-- Each message's reader stands for its walk.
use Prim.Native.Nat.{ℕ, ◌-◌}
use mathlib.Core.Path.{◌≡◌, refl, ap}
use native.Mathlib.Omega.{arith}
use Rattle.std.specs.Prelude.{Ok, Err}
use Rattle.std.proofs.lemmas.Result.{err_from_is_err_and}
use Rattle.format.specs.Walk.{fault, located}
use Rattle.laws.proofs.Checks.{gives, refuses}
use Rattle.dataset.specs.Dataset.{parts_walk}
use Rattle.dataset.proofs.dataset.read_parts.Goals as goal

pub returns-in_err-dimensions : goal.returns-in_err-dimensions
unfolding parts_walk
returns-in_err-dimensions c =
    let p = err_from_is_err_and c.from_residual.result c.from_residual.ensures.1 in
    let f : (n : ℕ) × (c.read_space.result ≡ Err n) × (c.in_err-dimensions.field-0.0 ≡ fault n (c.args.bodies.space.place - 8)) = grind arith in
    rw (p.1, p.2, f.2) (record {
      result_value = refuses _ (ap (located _) (rw f.1 at c.read_space.ensures.walk));
      parts_shaped = tt;
    })

pub returns-in_err-datatype : goal.returns-in_err-datatype
unfolding parts_walk
returns-in_err-datatype c =
    let p = err_from_is_err_and c.from_residual-in_err-datatype.result c.from_residual-in_err-datatype.ensures.1 in
    let d : c.read_space.result ≡ Ok c.in_ok-dimensions.dimensions = grind arith in
    let f : (n : ℕ) × (c.read_type.result ≡ Err n) × (c.in_err-datatype.field-0.0 ≡ fault n (c.args.bodies.datatype.place - 8)) = grind arith in
    rw (p.1, p.2, f.2) (record {
      result_value = gives _ (ap (located _) (rw d at c.read_space.ensures.walk)) (refuses _ (ap (located _) (rw f.1 at c.read_type.ensures)));
      parts_shaped = tt;
    })

pub returns : goal.returns
unfolding parts_walk
returns c =
    let d : c.read_space.result ≡ Ok c.in_ok-dimensions.dimensions = grind arith in
    let t : c.read_type.result ≡ Ok c.in_ok-datatype.datatype = grind arith in
    let s = rw d at c.read_space.ensures in
    record {
      result_value = gives _ (ap (located _) s.walk) (gives _ (ap (located _) (rw t at c.read_type.ensures)) refl);
      parts_shaped = (s.ranked, s.sizes, s.maxima);
    }
