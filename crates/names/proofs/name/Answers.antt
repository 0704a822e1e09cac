-- How many bytes the name has, then the free blocks.
use mathlib.Core.List.{[]}
use mathlib.Core.Path.{◌≡◌, sym, ◌∙◌}
use Rattle.nul.proofs.NulLaws.{ends}
use Rattle.names.proofs.NameLaws.{key-checked, name-fault}
use Rattle.names.proofs.FormLaws.{name-formless, name-inside, name-alone, name-hit, name-missed}
use Rattle.names.proofs.ValueLaws.{none-followed}
use Rattle.names.specs.declared.NameFault.TheVariants.{BadForm}
use native.Mathlib.Omega.{arith}
use Rattle.std.specs.Prelude.{Some, None}
use Rattle.std.proofs.lemmas.Result.{err_from_is_err_and}
use Rattle.names.proofs.name.Goals as goal
use Rattle.names.proofs.name.Goals.{else-free-ne0-via-then-free-ne0+else-meets_free, else-free-ne0-via-else-free-ne0}

pub returns-in_err-key : goal.returns-in_err-key
returns-in_err-key c =
    let p = err_from_is_err_and c.from_residual.result c.from_residual.ensures.1 in
    rw (p.1, p.2) (record { value = name-fault _ _ (c.in_err-key.ensures _); inside = tt })

pub name_size-requires : goal.name_size-requires
name_size-requires c = ends _ _ _ c.requires.last_nul (key-checked _ c.requires.last_nul c.in_ok-key.ensures)

pub returns-in_err-size : goal.returns-in_err-size
returns-in_err-size c =
    let l = c.requires.last_nul in
    let p = err_from_is_err_and c.from_residual-in_err-size.result c.from_residual-in_err-size.ensures.1 in
    let f : (c.name_size.result ≡ None) × (c.in_err-size.field-0.0 ≡ BadForm) = grind arith in
    rw (p.1, p.2, f.1) (record {
      value = name-formless _ _ _ _ l (key-checked _ l c.in_ok-key.ensures) (sym c.name_size.ensures ∙ f.0);
      inside = tt;
    })

pub overflow_add-size : goal.overflow_add-size
overflow_add-size c =
    let l = c.requires.last_nul in
    let e : c.name_size.result ≡ Some c.in_ok-size.size = grind arith in
    record { fits = omega (arith, name-inside _ _ _ [] l (key-checked _ l c.in_ok-key.ensures) (sym c.name_size.ensures ∙ e)) }

pub meets_free-requires-clause-size_in_bounds : goal.meets_free-requires-clause-size_in_bounds
meets_free-requires-clause-size_in_bounds c =
    let l = c.requires.last_nul in
    let e : c.name_size.result ≡ Some c.in_ok-size.size = grind arith in
    omega (arith, name-inside _ _ _ [] l (key-checked _ l c.in_ok-key.ensures) (sym c.name_size.ensures ∙ e))

pub returns-then-meets_free : goal.returns-then-meets_free
returns-then-meets_free c =
    let l = c.requires.last_nul in
    let e : c.name_size.result ≡ Some c.in_ok-size.size = grind arith in
    record {
      value =
          name-hit _ _ _ _ l (key-checked _ l c.in_ok-key.ensures) (sym c.name_size.ensures ∙ e)
          (sym c.meets_free.ensures ∙ c.if-meets_free.true);
      inside = tt;
    }

pub returns : goal.returns
returns c =
    let l = c.requires.last_nul in
    let k = key-checked _ l c.in_ok-key.ensures in
    let e : c.name_size.result ≡ Some c.in_ok-size.size = grind arith in
    record {
      value = elim c.else-free-ne0.branch [
        | else-free-ne0-via-then-free-ne0+else-meets_free w ↦
            name-missed _ _ _ _ l k (sym c.name_size.ensures ∙ e) (sym w.meets_free.ensures ∙ w.if-meets_free.false)
        | else-free-ne0-via-else-free-ne0 w ↦ name-alone _ _ _ _ l k (sym c.name_size.ensures ∙ e) (none-followed _ _ (omega arith))
      ];
      inside = name-inside _ _ _ [] l k (sym c.name_size.ensures ∙ e);
    }
