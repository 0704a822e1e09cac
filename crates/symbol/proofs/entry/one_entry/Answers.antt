-- The name, its place, and with a sound one what follows it.
use mathlib.Core.Path.{◌≡◌, sym, ◌∙◌}
use native.Mathlib.Omega.{arith}
use Rattle.format.specs.Walk.{fault}
use Rattle.format.specs.Names.{fault_number}
use Rattle.names.specs.Texts.{fault_of}
use Rattle.names.specs.declared.NameFault.{NameFault}
use Rattle.range.proofs.RangeLaws.{floor-passed, floor-refused, high-refused}
use Rattle.symbol.specs.Entry.{NameSound}
use Rattle.symbol.proofs.EntryLaws.{name-sound, name-refused, place-refused}
use Rattle.std.specs.Prelude.{Ok, Err}
use Rattle.std.proofs.lemmas.Result.{err_from_is_err_and}
use Rattle.symbol.proofs.entry.one_entry.Goals as goal
use Rattle.symbol.proofs.entry.one_entry.Goals.{then-not-below-via-then-not-below, then-not-below-via-else-not-below+then-not-at_most}

pub returns-in_err-size-clause-read : goal.returns-in_err-size-clause-read
returns-in_err-size-clause-read g c =
    let p = err_from_is_err_and c.from_residual.result c.from_residual.ensures.1 in
    let f : (x : NameFault) × (c.name.result ≡ Err x) × (c.in_err-size.field-0.0 ≡ fault (fault_number (fault_of x)) c.args.at) = grind arith in
    rw (p.1, p.2, f.2) (name-refused _ _ _ _ _ _ _ _ c.u64_at-off.ensures.value f.1 c.name.ensures)

pub returns-then-not-below-clause-read : goal.returns-then-not-below-clause-read
returns-then-not-below-clause-read g c =
    let seg = c.args.group.now.strings.segment.now in
    let f : c.name.result ≡ Ok c.in_ok-size.size = grind arith in
    let sound : NameSound c.args.group.now.image.now seg c.args.group.now c.args.at (record
    { at = c.u64_at-off.result; size = c.in_ok-size.size; first = c.first_number.result; second = c.second_number.result }) =
    rw (c.first_number.ensures, c.second_number.ensures) (name-sound c.u64_at-off.ensures.value f c.name.ensures) in
    place-refused _ _ _ _ _ _ _ _ sound (elim c.then-not-below.branch [
      | then-not-below-via-then-not-below w ↦
          floor-refused seg _ _ c.args.floor _ c.requires.floor (sym c.name_below-below.ensures ∙ w.if-not-below.true)
      | then-not-below-via-else-not-below+then-not-at_most w ↦
          high-refused seg _ _ c.args.floor _ c.requires.floor (sym c.name_below-below.ensures ∙ w.if-not-below.false)
          (sym w.at_most.ensures ∙ w.if-not-at_most.true)
    ])

pub named_entry-requires-clause-name_sound : goal.named_entry-requires-clause-name_sound
named_entry-requires-clause-name_sound g c =
    let f : c.name.result ≡ Ok c.in_ok-size.size = grind arith in
    rw (c.first_number.ensures, c.second_number.ensures) (name-sound c.u64_at-off.ensures.value f c.name.ensures)

pub returns-clause-read : goal.returns-clause-read
returns-clause-read g c =
    c.named_entry.ensures.read c.args.range.now
    (floor-passed c.args.group.now.strings.segment.now _ _ c.args.floor _ c.requires.floor (sym c.name_below-below.ensures ∙ c.if-not-below.false)
    (sym c.at_most.ensures ∙ c.if-not-at_most.false))
