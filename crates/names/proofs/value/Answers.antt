-- The string that stands there; then there is no free block, or it is known whether the string ends outside them.
use mathlib.Core.Path.{sym, ◌∙◌}
use Rattle.format.specs.Names.{string_at}
use Rattle.nul.proofs.NulLaws.{ends}
use Rattle.names.proofs.NameLaws.{key-checked, value-fault}
use Rattle.names.proofs.ValueLaws.{value-alone, none-followed, value-sound, value-in-free}
use native.Mathlib.Omega.{arith}
use Rattle.std.proofs.lemmas.Result.{err_from_is_err_and}
use Rattle.names.proofs.value.Goals as goal
use Rattle.names.proofs.value.Goals.{else-strings-ne0-via-then-strings-ne0+else-not-outside_free, else-strings-ne0-via-else-strings-ne0}

pub returns-in_err-key : goal.returns-in_err-key
returns-in_err-key c =
    let p = err_from_is_err_and c.from_residual.result c.from_residual.ensures.1 in
    rw (p.1, p.2) (value-fault _ _ (c.in_err-key.ensures _))

pub outside_free-requires-clause-segment_in_bounds : goal.outside_free-requires-clause-segment_in_bounds
outside_free-requires-clause-segment_in_bounds c = ends _ _ _ c.requires.last_nul (key-checked _ c.requires.last_nul c.in_ok-key.ensures)

pub returns-then-not-outside_free : goal.returns-then-not-outside_free
returns-then-not-outside_free c =
    let l = c.requires.last_nul in
    value-in-free _ _ _ _ l (key-checked _ l c.in_ok-key.ensures) (sym c.outside_free.ensures ∙ c.if-not-outside_free.true)

pub returns : goal.returns
returns c =
    let l = c.requires.last_nul in
    let k = key-checked _ l c.in_ok-key.ensures in (
      string_at c.args.strings.segment.now c.args.off,
      elim c.else-strings-ne0.branch [
        | else-strings-ne0-via-then-strings-ne0+else-not-outside_free w ↦ value-sound _ _ _ _ l k (sym w.outside_free.ensures ∙ w.if-not-outside_free.false)
        | else-strings-ne0-via-else-strings-ne0 w ↦ value-alone _ _ _ _ l k (none-followed _ _ (omega arith))
      ],
    )
