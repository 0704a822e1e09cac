-- The check decides. Where it passes the log is long enough and fits, as writing the old counts requires.
use mathlib.Core.List.{List}
use mathlib.Core.Path.{◌≡◌, refl, ap, sym, ◌∙◌}
use Prim.Native.Nat.{ℕ, ◌/◌, ◌≤◌}
use lib.ListN.{length}
use Rattle.std.proofs.lemmas.Result.{err_from_is_err_and}
use Rattle.format.specs.Log.{restored}
use Rattle.format.specs.Undo.{undo_number}
use Rattle.undo.specs.Reply.{words_of}
use Rattle.undo.proofs.UndoLaws.{number-zero, fit-behind, undo-refused, undo-done}
use Rattle.undo.proofs.ByteLaws.{length-words, entries-last}
use native.Mathlib.Omega.{arith}
use Rattle.undo.proofs.undo.Goals as goal

pub returns-in_err-check : goal.returns-in_err-check
returns-in_err-check c =
    let a = c.args in
    let p = err_from_is_err_and c.from_residual.result c.from_residual.ensures.1 in
    let e = c.in_err-check.ensures in
    rw (p.1, p.2) (record { reply = undo-refused a.image.now (words_of a.log.now) a.entries a.limit e.0 e.1; refused = e.1 })

-- the bytes of all entries are there
long : (im log : List ℕ) (e : ℕ) → 0 ≡ undo_number im (words_of log) e → e ≤ length log / 16
long im log e h = omega (arith, (number-zero im (words_of log) e (sym h)).0, length-words (length log / 8) log)

pub overflow_mul-first : goal.overflow_mul-first
overflow_mul-first c = omega (arith, long c.args.image.now c.args.log.now c.args.entries c.in_ok-check.ensures)

pub overflow_mul-entries : goal.overflow_mul-entries
overflow_mul-entries c = omega (arith, long c.args.image.now c.args.log.now c.args.entries c.in_ok-check.ensures)

pub slice_bounds-restore-end : goal.slice_bounds-restore-end
slice_bounds-restore-end c = omega (arith, long c.args.image.now c.args.log.now c.args.entries c.in_ok-check.ensures)

pub restore-requires : goal.restore-requires
restore-requires c =
    let a = c.args in
    let there = long a.image.now a.log.now a.entries c.in_ok-check.ensures in
    let z = number-zero a.image.now (words_of a.log.now) a.entries (sym c.in_ok-check.ensures) in
    rw (entries-last a.log.now a.entries c.min-writes.result there (omega (arith, c.min-writes.ensures))) (fit-behind a.image.now _ _ z.1)

pub returns : goal.returns
returns c =
    let a = c.args in
    let there = long a.image.now a.log.now a.entries c.in_ok-check.ensures in
    record {
      reply = undo-done a.image.now (words_of a.log.now) a.entries a.limit c.in_ok-check.ensures refl c.min-writes.ensures
          (c.restore.ensures ∙ ap (restored a.image.now) (entries-last a.log.now a.entries c.min-writes.result there (omega (arith, c.min-writes.ensures))));
      refused = tt;
    }
